-- The rows of a table, each with its columns and the values beside them.
use Rattle.std.specs.Result.{IsErr}
use Rattle.std.proofs.Common.{◌≡◌, ◌≤◌, ℕ, ◌+◌, ◌-◌, false, true, List, Result, Ok, Err, refl, ap, ◌∙◌, arith}
use Rattle.sj_base.specs.Count.{raised}
use Rattle.sj_base.specs.declared.memory.Memory.{Memory}
use Rattle.sj_base.specs.declared.state.State.{State}
use Rattle.sj_value.specs.declared.value.SqlValue.{SqlValue}
use Rattle.sj_table.specs.Rows.{Row, PlanRows}
use Rattle.sj_table.specs.Series.{raises, more, chain}
use Rattle.sj_table.specs.Takes.{Spends}
use Rattle.sj_bound.specs.Bound as b
use Rattle.sj_select_list.specs.Line.{Line}
use Rattle.sj_select_list.specs.Values.{given_list, list_cost}
use Rattle.sj_select.specs.Columns.{columns_of, columns_given, columns_cost}
use Rattle.sj_select.specs.Rows.{StatementRows, then_values, then_cost, one_row, row_of, row_cost, listed, listed_cost}
use Rattle.sj_select.specs.Sources.{due_behind as found_due_behind}
use Rattle.sj_select.specs.declared.source.Found.{Found}
use Rattle.sj_select.proofs.CountedSteps.{spent_then, spent_less, falls_by}

-- ---- where memory runs out nothing is due

pub out_of_memory : (r : Result Found Memory) (due : ℕ) → IsErr r → found_due_behind r due ≡ 0
out_of_memory (Ok f) due e =
    let never : false ≡ true = e in
    let no : ⊥ = cc in
    absurd no
out_of_memory (Err m) due e = refl

-- ---- where no row comes, nothing more is due

pub end_spends : (due others m n : ℕ) → Spends due 0 m n → Spends (due + others) 0 m n
end_spends due others m n spends = record { falls = omega arith; costs = omega (arith, spends.costs) }

-- ---- a row

module _ (line : Line) (table : b.Table) (list : List b.Value) where
  -- its columns, and then the list beside them

  pub row_is : (row : Row) (cs : List SqlValue) → columns_given (columns_of table) row ≡ Ok cs → row_of line table list row ≡ given_list line cs list
  row_is row cs e = ap (λ (r : Result (List SqlValue) State). then_values r (λ columns. given_list line columns list)) e

  pub row_stops : (row : Row) (s : State) → columns_given (columns_of table) row ≡ Err s → row_of line table list row ≡ Err s
  row_stops row s e = ap (λ (r : Result (List SqlValue) State). then_values r (λ columns. given_list line columns list)) e

  pub row_cost_is : (row : Row) (cs : List SqlValue) → columns_given (columns_of table) row ≡ Ok cs → row_cost line table list row ≡ columns_cost (columns_of table) row + list_cost line cs list
  row_cost_is row cs e = ap (λ (r : Result (List SqlValue) State). columns_cost (columns_of table) row + then_cost r (λ columns. list_cost line columns list)) e

  -- ---- among the rows

  then_end : (r : Result (List SqlValue) State) (vs : List SqlValue) (others : StatementRows) → r ≡ Ok vs → chain (one_row r) others ≡ more vs others
  then_end r vs others e = ap (λ (x : Result (List SqlValue) State). chain (one_row x) others) e

  then_state : (r : Result (List SqlValue) State) (s : State) (others : StatementRows) → r ≡ Err s → chain (one_row r) others ≡ raises s
  then_state r s others e = ap (λ (x : Result (List SqlValue) State). chain (one_row x) others) e

  pub listed_row : (left : PlanRows) (row : Row) (others : PlanRows) (vs : List SqlValue) → left ≡ more row others → row_of line table list row ≡ Ok vs
      → listed line table list left ≡ more vs (listed line table list others)
  listed_row left row others vs e f = ap (listed line table list) e ∙ then_end _ vs _ f

  pub listed_stop : (left : PlanRows) (row : Row) (others : PlanRows) (s : State) → left ≡ more row others → row_of line table list row ≡ Err s → listed line table list left ≡ raises s
  listed_stop left row others s e f = ap (listed line table list) e ∙ then_state _ s _ f

  -- ---- its steps

  cost_more : (left : PlanRows) (row : Row) (others : PlanRows) → left ≡ more row others → listed_cost line table list left ≡ row_cost line table list row + then_cost (row_of line table list row) (λ _. listed_cost line table list others)
  cost_more left row others e = ap (listed_cost line table list) e

  cost_going : (row : Row) (others : PlanRows) (vs : List SqlValue) → row_of line table list row ≡ Ok vs → then_cost (row_of line table list row) (λ _. listed_cost line table list others) ≡ listed_cost line table list others
  cost_going row others vs e = ap (λ (r : Result (List SqlValue) State). then_cost r (λ _. listed_cost line table list others)) e

  -- up to a state, or to where memory runs out
  pub stop_spends : (left : PlanRows) (row : Row) (others : PlanRows) (d d' m n k : ℕ) → left ≡ more row others → Spends d d' m n → k ≤ raised n (row_cost line table list row)
      → Spends (d + listed_cost line table list left) 0 m k
  stop_spends left row others d d' m n k e spends spent =
      falls_by _ 0 (d + listed_cost line table list left) m k (omega arith)
      (spent_less m (d + row_cost line table list row) _ k (omega (arith, cost_more left row others e))
      (spent_then m d n (row_cost line table list row) k (omega (arith, spends.falls, spends.costs)) spent))

  -- of a row behind which others may come
  pub row_spends : (left : PlanRows) (row : Row) (others : PlanRows) (vs : List SqlValue) (d d' m n k : ℕ) → left ≡ more row others → row_of line table list row ≡ Ok vs → Spends d d' m n
      → k ≤ raised n (row_cost line table list row) → Spends (d + listed_cost line table list left) (d' + listed_cost line table list others) m k
  row_spends left row others vs d d' m n k e f spends spent =
      falls_by _ _ ((d - d') + row_cost line table list row) m k
      (omega (arith, spends.falls, cost_more left row others e, cost_going row others vs f))
      (spent_then m (d - d') n (row_cost line table list row) k spends.costs spent)
