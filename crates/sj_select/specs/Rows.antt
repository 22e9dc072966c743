-- THE ROWS OF A STATEMENT for a line (ISO/IEC 9075-2, query specification).
use Rattle.std.specs.Prelude.{ℕ, ◌+◌, List, [], ◌∷◌, ◌++◌, Option, Some, None, Result, Ok, Err}
use Rattle.sj_base.specs.declared.state.State.{State}
use Rattle.sj_value.specs.declared.clauses.TableAction.{TableAction}
use Rattle.sj_value.specs.declared.clauses.TableAction.TheVariants as actions
use Rattle.sj_value.specs.declared.value.SqlValue.{SqlValue}
use Rattle.sj_func.specs.Functions.{ContextValue, on_item, on_bad}
use Rattle.sj_table.specs.Rows.{Row, PlanRows, plan_rows, plan_cost}
use Rattle.sj_table.specs.Series.{Series, done, raises, more, each}
use Rattle.sj_bound.specs.Bound as b
use Rattle.sj_select_list.specs.Aggregates.{Aggregate, aggregates_in, aggregates, inputs_cost}
use Rattle.sj_select_list.specs.Line.{Line, context}
use Rattle.sj_select_list.specs.Values.{values_in, given_list, list_cost}
use Rattle.sj_select.specs.Columns.{columns_of, columns_given, columns_cost}

-- rows in their order, and at their end the state that is raised, if there is one
abbrev pub StatementRows : Type 0
StatementRows = Series (List SqlValue)

-- ---- what follows, unless a state is raised

abbrev pub then_values : {A : Type 0} → Result A State → (A → Result (List SqlValue) State) → Result (List SqlValue) State
then_values (Ok x) next = next x
then_values (Err s) next = Err s

abbrev pub then_rows : {A : Type 0} → Result A State → (A → StatementRows) → StatementRows
then_rows (Ok x) next = next x
then_rows (Err s) next = raises s

abbrev pub then_cost : {A : Type 0} → Result A State → (A → ℕ) → ℕ
then_cost (Ok x) next = next x
then_cost (Err s) next = 0

-- one row, or a state in its place
abbrev pub one_row : Result (List SqlValue) State → StatementRows
one_row r = then_rows r (λ row. more row done)

-- ---- the rows of the plan of a table

-- an error in the place of the context item leaves no row, or is raised
abbrev pub rows_in_error : TableAction → State → PlanRows
rows_in_error actions.Empty s = done
rows_in_error actions.Error s = raises s

abbrev pub rows_on : b.Table → ContextValue → PlanRows
rows_on table (on_item x) = plan_rows table.paths table.vars table.on_error table.plan x
rows_on table (on_bad s) = rows_in_error table.on_error s

abbrev pub rows_cost_on : b.Table → ContextValue → ℕ
rows_cost_on table (on_item x) = plan_cost table.paths table.vars table.on_error table.plan x
rows_cost_on table (on_bad s) = 0

module _ (line : Line) (table : b.Table) where
  -- ---- without aggregates

  -- a row of the plan gives a row of values: first the columns, and then the SELECT list beside them
  abbrev pub row_of : List b.Value → Row → Result (List SqlValue) State
  row_of list row = then_values (columns_given (columns_of table) row) (λ columns. given_list line columns list)

  abbrev pub row_cost : List b.Value → Row → ℕ
  row_cost list row = columns_cost (columns_of table) row + then_cost (columns_given (columns_of table) row) (λ columns. list_cost line columns list)

  -- each row of the plan gives its row, up to the first state
  abbrev pub listed : List b.Value → PlanRows → StatementRows
  listed list rows = each rows (λ row. one_row (row_of list row))

  abbrev pub listed_cost : List b.Value → PlanRows → ℕ
  listed_cost list done = 0
  listed_cost list (raises s) = 0
  listed_cost list (more row rows) = row_cost list row + then_cost (row_of list row) (λ _. listed_cost list rows)

  -- ---- with aggregates

  -- One row of the aggregates over the columns of all rows of the plan. The first state ends it without a row: of the plan, of a
  -- column, or of the aggregates over the rows up to there. `before` are the columns of the rows before those of the plan.
  abbrev pub aggregated : List Aggregate → List (List SqlValue) → PlanRows → StatementRows
  aggregated list before done = one_row (aggregates line list before)
  aggregated list before (raises s) = raises s
  aggregated list before (more row rows) =
      then_rows (columns_given (columns_of table) row) (λ columns.
      then_rows (aggregates line list (before ++ columns ∷ [])) (λ _. aggregated list (before ++ columns ∷ []) rows))

  abbrev pub aggregated_cost : List Aggregate → List (List SqlValue) → PlanRows → ℕ
  aggregated_cost list before done = 0
  aggregated_cost list before (raises s) = 0
  aggregated_cost list before (more row rows) =
      columns_cost (columns_of table) row + then_cost (columns_given (columns_of table) row) (λ columns.
      inputs_cost line list (before ++ columns ∷ []) columns
      + then_cost (aggregates line list (before ++ columns ∷ [])) (λ _. aggregated_cost list (before ++ columns ∷ []) rows))

  -- ---- either

  -- a list that has aggregates has nothing else
  abbrev pub over_rows : List b.Value → List Aggregate → PlanRows → StatementRows
  over_rows list [] rows = listed list rows
  over_rows list (a ∷ others) rows = aggregated (a ∷ others) [] rows

  abbrev pub over_cost : List b.Value → List Aggregate → PlanRows → ℕ
  over_cost list [] rows = listed_cost list rows
  over_cost list (a ∷ others) rows = aggregated_cost (a ∷ others) [] rows

abbrev pub rows_beside : Option b.Table → List b.Item → Line → StatementRows
rows_beside None items line = one_row (given_list line [] (values_in items))
rows_beside (Some table) items line = over_rows line table (values_in items) (aggregates_in items) (rows_on table (context line))

abbrev pub cost_beside : Option b.Table → List b.Item → Line → ℕ
cost_beside None items line = list_cost line [] (values_in items)
cost_beside (Some table) items line = rows_cost_on table (context line) + over_cost line table (values_in items) (aggregates_in items) (rows_on table (context line))

-- THE ROWS of a statement for a line
abbrev pub statement_rows : b.Bound → Line → StatementRows
statement_rows s line = rows_beside s.table s.items line

-- THE ALLOWANCE: the steps that giving them may take, up to and with the first value that raises a state
abbrev pub statement_cost : b.Bound → Line → ℕ
statement_cost s line = cost_beside s.table s.items line
