-- Columns that are printed one behind the other, and what the fields of all of them are.
use Rattle.std.proofs.Common.{◌≡◌, ◌≤◌, ℕ, ◌+◌, List, [], ◌∷◌, ◌++◌, drop, Err, sym, ap, ◌∙◌, arith, append_assoc}
use Rattle.std.specs.List.{flat_map}
use Rattle.std.proofs.lemmas.List.{append-nil}
use Rattle.std.proofs.lemmas.List.Concat.{flat_map-append}
use Rattle.sj_base.specs.Count.{raised}
use Rattle.sj_base.specs.declared.state.State.{State}
use Rattle.sj_value.specs.declared.value.SqlValue.{SqlValue}
use Rattle.sj_rows.specs.RowText.{tabbed, Extends, HasField}
use Rattle.sj_rows.proofs.Extending.{extends_by, extends_more}
use Rattle.sj_func.specs.declared.context.Outcome.TheVariants.{Value, Raised}
use Rattle.sj_table.specs.Rows.{Row}
use Rattle.sj_select_list.proofs.GatheredOutcomes.{behind, behind-nil, gather_step, gather_stop, cost_step, cost_stop}
use Rattle.sj_select.specs.Columns.{Column, column_outcome, column_cost, columns_given, columns_cost}

module _ (row : Row) where
  -- the values so far were found, and their fields stand there
  pub record HasCome (S : List Column) (i : ℕ) (old now : List ℕ) (m n : ℕ) : Type 0 where
    pub values : List SqlValue
    pub grown : now ≡ old ++ flat_map tabbed values
    pub ends : behind values (columns_given (drop i S) row) ≡ columns_given S row
    pub costs : raised n (columns_cost (drop i S) row) ≤ raised m (columns_cost S row)

  pub come_none : (S : List Column) (old : List ℕ) (m : ℕ) → HasCome S 0 old old m m
  come_none S old m = record { values = []; grown = sym (append-nil old); ends = behind-nil (columns_given S row); costs = omega arith }

  module _ (S : List Column) (i : ℕ) (x : Column) (old now : List ℕ) (m n : ℕ) (come : HasCome S i old now m n) (first : drop i S ≡ x ∷ drop (i + 1) S) where
    pub come_more : (new : List ℕ) (k : ℕ) → HasField Value (column_outcome row x) now new → k ≤ raised n (column_cost row x) → HasCome S (i + 1) old new m k
    come_more new k h spent = record {
      values = come.values ++ h.value ∷ [];
      grown = h.grown ∙ ap (λ (l : List ℕ). l ++ tabbed h.value) come.grown ∙ append_assoc old (flat_map tabbed come.values) (tabbed h.value)
          ∙ ap (λ (l : List ℕ). old ++ l) (ap (λ (l : List ℕ). flat_map tabbed come.values ++ l) (sym (append-nil (tabbed h.value))) ∙ sym (flat_map-append tabbed come.values (h.value ∷ [])));
      ends = gather_step (column_outcome row) S i x come.values h.value _ first h.is come.ends;
      costs = cost_step (column_outcome row) (column_cost row) S i x h.value n k _ first h.is spent come.costs;
    }

    pub come_raised : (new : List ℕ) (s : State) → column_outcome row x ≡ Raised s → new ≡ now → (columns_given S row ≡ Err s) × Extends old new
    come_raised new s is same = (gather_stop (column_outcome row) S i x come.values s _ first is come.ends, extends_by old (flat_map tabbed come.values) new (same ∙ come.grown))

    pub come_within : (k : ℕ) → k ≤ raised n (column_cost row x) → k ≤ raised m (columns_cost S row)
    come_within k spent = cost_stop (column_outcome row) (column_cost row) S i x n k _ first spent come.costs

  pub come_extends : (S : List Column) (i : ℕ) (old now : List ℕ) (m n : ℕ) → HasCome S i old now m n → (new : List ℕ) → Extends now new → Extends old new
  come_extends S i old now m n come new more = extends_more old now new (extends_by old (flat_map tabbed come.values) now come.grown) more
