-- THE COLUMNS OF A TABLE in one of the rows of its plan (ISO/IEC 9075-2, JSON table).
use Rattle.std.specs.Prelude.{ℕ, List, map, Option, Some, None, Result, pos}
use Rattle.sj_base.specs.declared.state.State.{State}
use Rattle.sj_item.specs.Items.{ItemValue}
use Rattle.sj_path_tree.specs.Vars.{Variables}
use Rattle.sj_value.specs.declared.clauses.ExistsAction.{ExistsAction}
use Rattle.sj_value.specs.declared.clauses.QuerySpec.{QuerySpec}
use Rattle.sj_value.specs.declared.clauses.ValueSpec.{ValueSpec}
use Rattle.sj_value.specs.declared.value.SqlValue.{SqlValue}
use Rattle.sj_value.specs.declared.value.SqlValue.TheVariants.{Null, Num}
use Rattle.sj_func.specs.Functions.{on_item, exists_outcome, exists_cost, value_outcome, value_cost, query_outcome, query_cost}
use Rattle.sj_func.specs.declared.context.Outcome.{Outcome}
use Rattle.sj_func.specs.declared.context.Outcome.TheVariants.{Value}
use Rattle.sj_table.specs.Rows.{Row, entry}
use Rattle.sj_bound.specs.Bound as b
use Rattle.sj_bound.specs.Bound.{PathWith}
use Rattle.sj_select_list.specs.Values.{trace_of, each_value, each_cost}

-- a column of the path of this number, with the variables that are passed to the table
pub data Column : Type 0 where
  ordinality : ℕ → Column
  regular : ℕ → PathWith → ValueSpec → Column
  formatted : ℕ → PathWith → QuerySpec → Column
  existence : ℕ → PathWith → ExistsAction → Column

abbrev pub with_variables : Variables → b.ColumnOf → Column
with_variables vars (b.Ordinality n) = ordinality n
with_variables vars (b.Regular n path clauses) = regular n (record { path = path; vars = vars }) clauses
with_variables vars (b.Formatted n path clauses) = formatted n (record { path = path; vars = vars }) clauses
with_variables vars (b.Existence n path on_error) = existence n (record { path = path; vars = vars }) on_error

abbrev pub columns_of : b.Table → List Column
columns_of table = map (with_variables table.vars) table.columns

-- ---- one column, of the entry that its path has in the row: NULL where it has none

abbrev pub ordinality_of : Option (ItemValue × ℕ) → Outcome
ordinality_of None = Value Null
ordinality_of (Some e) = Value (Num (pos e.1, 0) 0)

-- JSON_VALUE on the item
abbrev pub regular_of : PathWith → ValueSpec → Option (ItemValue × ℕ) → Outcome
regular_of x clauses None = Value Null
regular_of x clauses (Some e) = value_outcome clauses x.path.mode (on_item e.0) (trace_of x)

-- JSON_QUERY on the item
abbrev pub formatted_of : PathWith → QuerySpec → Option (ItemValue × ℕ) → Outcome
formatted_of x clauses None = Value Null
formatted_of x clauses (Some e) = query_outcome clauses x.path.mode (on_item e.0) (trace_of x)

-- JSON_EXISTS on the item
abbrev pub existence_of : PathWith → ExistsAction → Option (ItemValue × ℕ) → Outcome
existence_of x _ None = Value Null
existence_of x on_error (Some e) = exists_outcome on_error x.path.mode (on_item e.0) (trace_of x)

abbrev pub column_outcome : Row → Column → Outcome
column_outcome row (ordinality n) = ordinality_of (entry n row)
column_outcome row (regular n x clauses) = regular_of x clauses (entry n row)
column_outcome row (formatted n x clauses) = formatted_of x clauses (entry n row)
column_outcome row (existence n x on_error) = existence_of x on_error (entry n row)

-- ---- the steps that it may take

abbrev pub regular_cost : PathWith → Option (ItemValue × ℕ) → ℕ
regular_cost x None = 0
regular_cost x (Some e) = value_cost x.path.mode (on_item e.0) (trace_of x)

abbrev pub formatted_cost : PathWith → QuerySpec → Option (ItemValue × ℕ) → ℕ
formatted_cost x clauses None = 0
formatted_cost x clauses (Some e) = query_cost clauses.wrapper x.path.mode (on_item e.0) (trace_of x)

abbrev pub existence_cost : PathWith → Option (ItemValue × ℕ) → ℕ
existence_cost x None = 0
existence_cost x (Some e) = exists_cost x.path.mode (on_item e.0) (trace_of x)

abbrev pub column_cost : Row → Column → ℕ
column_cost row (ordinality n) = 0
column_cost row (regular n x clauses) = regular_cost x (entry n row)
column_cost row (formatted n x clauses) = formatted_cost x clauses (entry n row)
column_cost row (existence n x _) = existence_cost x (entry n row)

-- ---- all columns in their order, or the first state

abbrev pub columns_given : List Column → Row → Result (List SqlValue) State
columns_given columns row = each_value (column_outcome row) columns

abbrev pub columns_cost : List Column → Row → ℕ
columns_cost columns row = each_cost (column_outcome row) (column_cost row) columns
