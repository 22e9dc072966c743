-- How the rows of a table are held. Private clauses alone cite this.
use Rattle.std.specs.Prelude.{◌≡◌, ℕ, map, Option, Some, None, All as Each}
use Rattle.sj_base.specs.declared.state.State.{State}
use Rattle.sj_value.specs.Values.{IsPrintable}
use Rattle.sj_table.specs.Rows.{PlanRows}
use Rattle.sj_table.specs.View.{TableView}
use Rattle.sj_bound.specs.View.{table_of}
use Rattle.sj_select.specs.Columns.{columns_of}
use Rattle.sj_select.specs.Filling.{column_of, CanFill}
use Rattle.sj_select.specs.Rows.{rows_in_error}
use Rattle.sj_select.specs.declared.table.TableRows.{TableRows}

-- the rows of the plan that are left, and none behind an error in the place of the context item
abbrev pub left_unless : Option State → TableView → PlanRows
left_unless None cursor = cursor.left
left_unless (Some s) cursor = rows_in_error cursor.on_error s

abbrev pub due_unless : Option State → TableView → ℕ
due_unless None cursor = cursor.due
due_unless (Some s) cursor = 0

abbrev pub plan_left : TableRows → PlanRows
plan_left t = left_unless t.bad t.cursor

-- the steps that the plan may still take
abbrev pub plan_due : TableRows → ℕ
plan_due t = due_unless t.bad t.cursor

-- the cursor and the columns are those of the table
pub record IsPlaced (t : TableRows) : Type 0 where
  pub plan : t.cursor.plan ≡ t.table.now.plan
  pub paths : t.cursor.paths ≡ t.table.now.paths
  pub vars : t.cursor.vars ≡ t.table.now.vars
  pub on_error : t.cursor.on_error ≡ t.table.now.on_error
  pub columns : map column_of t.columns.items ≡ columns_of (table_of t.table.now)
  pub can_fill : Each CanFill (columns_of (table_of t.table.now))
  pub printable : Each IsPrintable t.values.items
