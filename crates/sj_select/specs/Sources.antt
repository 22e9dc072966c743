-- What the rows of a statement are made of: which rows are left, and what is found in the place of the next one. Private clauses alone
-- cite this.
use Rattle.std.specs.Prelude.{◌≡◌, ℕ, ◌+◌, List, [], ◌∷◌, ◌++◌, map, Option, None, Some, Result, Ok, Err, Box, All as Each}
use Rattle.std.specs.declared.alloc.Global.{Global}
use Rattle.sj_base.specs.declared.memory.Memory.{Memory}
use Rattle.sj_base.specs.declared.state.State.{State}
use Rattle.std.specs.List.{flat_map}
use Rattle.sj_value.specs.Values.{IsPrintable}
use Rattle.sj_rows.specs.RowText.{tabbed, Extends}
use Rattle.sj_value.specs.declared.value.SqlValue.{SqlValue}
use Rattle.sj_table.specs.Rows.{Row}
use Rattle.sj_table.specs.Series.{done, raises, more}
use Rattle.sj_bound.specs.Bound as b
use Rattle.sj_bound.specs.View.{table_of}
use Rattle.sj_select_list.specs.Aggregates.{Aggregate, aggregates_in, aggregates, inputs_cost}
use Rattle.sj_select_list.specs.Line.{Line}
use Rattle.sj_select_list.specs.Operations.{steps_of, steps_to_all}
use Rattle.sj_select_list.specs.Performing.{CanBeGiven}
use Rattle.sj_select_list.specs.Taking.{IsReady, HasTaken, aggregate_of}
use Rattle.sj_select_list.specs.Values.{values_in, given_list, list_cost}
use Rattle.sj_select_list.specs.declared.aggregate.Aggregate.{Aggregate as AggregateHeld}
use Rattle.sj_select.specs.Columns.{columns_of, columns_given, columns_cost}
use Rattle.sj_select.specs.Rows.{StatementRows, then_values, then_cost, one_row, listed_cost, over_rows, over_cost}
use Rattle.sj_select.specs.Tables.{IsPlaced, plan_left, plan_due}
use Rattle.sj_select.specs.declared.source.Found.{Found}
use Rattle.sj_select.specs.declared.source.Found.TheVariants as found
use Rattle.sj_select.specs.declared.source.RowSource.{RowSource}
use Rattle.sj_select.specs.declared.table.TableRows.{TableRows}

-- ---- what is left

abbrev pub left_beside : Option (Box TableRows Global) → List b.Item → Line → StatementRows
left_beside None items line = one_row (given_list line [] (values_in items))
left_beside (Some t) items line = over_rows line (table_of t.value.table.now) (values_in items) (aggregates_in items) (plan_left t.value)

abbrev pub due_beside : Option (Box TableRows Global) → List b.Item → Line → ℕ
due_beside None items line = list_cost line [] (values_in items)
due_beside (Some t) items line = plan_due t.value + over_cost line (table_of t.value.table.now) (values_in items) (aggregates_in items) (plan_left t.value)

-- the rows that are left of a statement for a line
abbrev pub source_left : b.Bound → Line → RowSource → StatementRows
source_left s line r = left_beside r.table s.items line

-- the steps that they may take
abbrev pub source_due : b.Bound → Line → RowSource → ℕ
source_due s line r = due_beside r.table s.items line

abbrev pub listed_due : Line → List b.Value → TableRows → ℕ
listed_due line list t = plan_due t + listed_cost line (table_of t.table.now) list (plan_left t)

-- ---- of which statement

abbrev pub IsTableOf : Option (Box TableRows Global) → Option b.Table → Type 0
IsTableOf None table = table ≡ None
IsTableOf (Some t) table = table ≡ Some (table_of t.value.table.now)

pub record IsFor (s : b.Bound) (r : RowSource) : Type 0 where
  pub finds : steps_of r.operations.items ≡ steps_to_all (values_in s.items)
  pub takes : map aggregate_of r.aggregates.items ≡ aggregates_in s.items
  pub table : IsTableOf r.table s.table

abbrev pub IsPlacedIfAny : Option (Box TableRows Global) → Type 0
IsPlacedIfAny None = Unit {0}
IsPlacedIfAny (Some t) = IsPlaced t.value

-- all that asking for a row needs
pub record IsReadySource (r : RowSource) : Type 0 where
  pub given : Each CanBeGiven (steps_of r.operations.items)
  pub aggregates : Each IsReady r.aggregates.items
  pub table : IsPlacedIfAny r.table
  pub printable : Each IsPrintable r.stack.values.items

-- ---- what is found

-- a row is the next one, and a TAB and a field was appended for each of its values
pub record HasRow (left left' : StatementRows) (old new : List ℕ) : Type 0 where
  pub row : List SqlValue
  pub is : left ≡ more row left'
  pub grown : new ≡ old ++ flat_map tabbed row

abbrev pub Prints : StatementRows → Found → List ℕ → List ℕ → StatementRows → Type 0
Prints left found.Row old new left' = HasRow left left' old new
Prints left found.LastRow old new left' = HasRow left done old new
Prints left found.End old new left' = (left ≡ done) × Extends old new
Prints left (found.Raised s) old new left' = (left ≡ raises s) × Extends old new

-- the same of the values that were found
abbrev pub FindsNext : StatementRows → Found → List SqlValue → StatementRows → Type 0
FindsNext left found.Row values left' = left ≡ more values left'
FindsNext left found.LastRow values left' = left ≡ more values done
FindsNext left found.End values left' = left ≡ done
FindsNext left (found.Raised s) values left' = left ≡ raises s

-- these are the values of the one row that is left, or a state is raised in its place
abbrev pub FindsOnly : StatementRows → Option State → List SqlValue → Type 0
FindsOnly left None values = left ≡ more values done
FindsOnly left (Some s) values = left ≡ raises s

-- these values, where a row was found
abbrev pub values_found : Found → List SqlValue → List SqlValue
values_found found.Row values = values
values_found found.LastRow values = values
values_found found.End values = []
values_found (found.Raised s) values = []

-- what may still be taken: nothing, unless more rows may follow
abbrev pub found_due : Found → ℕ → ℕ
found_due found.Row due = due
found_due found.LastRow due = 0
found_due found.End due = 0
found_due (found.Raised s) due = 0

abbrev pub due_behind : Result Found Memory → ℕ → ℕ
due_behind (Ok f) due = found_due f due
due_behind (Err m) due = 0

-- ---- what aggregates take

-- the aggregates over the rows before one of the plan and that one, or the first state
abbrev pub taken_end : Line → b.Table → List Aggregate → List (List SqlValue) → Row → Result (List SqlValue) State
taken_end line table list before row = then_values (columns_given (columns_of table) row) (λ columns. aggregates line list (before ++ columns ∷ []))

abbrev pub taken_cost : Line → b.Table → List Aggregate → List (List SqlValue) → Row → ℕ
taken_cost line table list before row =
    columns_cost (columns_of table) row + then_cost (columns_given (columns_of table) row) (λ columns. inputs_cost line list (before ++ columns ∷ []) columns)

-- the columns of a row were taken
pub record HasTakenRow (line : Line) (table : b.Table) (row : Row) (before : List (List SqlValue)) (held : List AggregateHeld) : Type 0 where
  pub columns : List SqlValue
  pub given : columns_given (columns_of table) row ≡ Ok columns
  pub taken : Each (HasTaken line (before ++ columns ∷ [])) held

-- or a state was raised
abbrev pub TakesRow : Line → b.Table → Row → List (List SqlValue) → List AggregateHeld → List AggregateHeld → Option State → Type 0
TakesRow line table row before old new None = HasTakenRow line table row before new
TakesRow line table row before old new (Some s) = taken_end line table (map aggregate_of old) before row ≡ Err s

-- all rows were taken, and the aggregates over them are what is left
pub record HasTakenRows (whole : StatementRows) (line : Line) (held : List AggregateHeld) : Type 0 where
  pub rows : List (List SqlValue)
  pub taken : Each (HasTaken line rows) held
  pub left : whole ≡ one_row (aggregates line (map aggregate_of held) rows)

abbrev pub TakesRows : StatementRows → Line → List AggregateHeld → Option State → Type 0
TakesRows whole line held None = HasTakenRows whole line held
TakesRows whole line held (Some s) = whole ≡ raises s
