-- A SELECT list that is the columns of a table, each in its turn: its values are those of the columns.
use Rattle.std.proofs.Common.{◌≡◌, ◌<◌, ℕ, ◌+◌, List, [], ◌∷◌, ◌++◌, length, drop, get_or, Result, Ok, Err, refl, sym, ap, subst, ◌∙◌, arith}
use Rattle.std.proofs.lemmas.List.{drop_all, drop_more}
use Rattle.sj_base.specs.declared.state.State.{State}
use Rattle.sj_value.specs.declared.value.SqlValue.{SqlValue}
use Rattle.sj_value.specs.declared.value.SqlValue.TheVariants.{Null}
use Rattle.sj_func.specs.declared.context.Outcome.{Outcome}
use Rattle.sj_func.specs.declared.context.Outcome.TheVariants.{Value, Raised}
use Rattle.sj_table.specs.Rows.{Row}
use Rattle.sj_bound.specs.Bound as b
use Rattle.sj_select_list.specs.Line.{Line}
use Rattle.sj_select_list.specs.Operations.{OperationStep, column, object, array, member_count, value_count, steps_to_members, steps_to_values, steps_to_all}
use Rattle.sj_select_list.specs.Values.{value_before, each_value, given_list}
use Rattle.sj_select.specs.Columns.{column_outcome, columns_of, columns_given}
use Rattle.sj_select.specs.Listing.{FindsEach}
use Rattle.sj_select.specs.Rows.{then_values, row_of}

-- ---- the steps

-- one step more
pub finds_more : (S : List OperationStep) (i : ℕ) (step : OperationStep) → drop i S ≡ step ∷ drop (i + 1) S → step ≡ column i → (FindsEach i (drop i S) → FindsEach 0 S) → FindsEach (i + 1) (drop (i + 1) S) → FindsEach 0 S
finds_more S i step first is before behind = before (subst (FindsEach i) (sym first) (is, behind))

-- the last step to a value, with others behind it, finds a column too
last_finds : (xs : List OperationStep) (last : OperationStep) (others : List OperationStep) (i : ℕ) → FindsEach i ((xs ++ last ∷ []) ++ others) → (n : ℕ) × (last ≡ column n)
last_finds [] last others i finds = (i, finds.0)
last_finds (x ∷ xs) last others i finds = last_finds xs last others (i + 1) finds.1

-- ---- the values

module _ (line : Line) (columns : List SqlValue) where
  -- of a list whose steps find the columns from a number on: they are the columns from there on
  given_each : (list : List b.Value) (i : ℕ) → FindsEach i (steps_to_all list) → i + length (steps_to_all list) ≡ length columns → given_list line columns list ≡ Ok (drop i columns)
  given_each [] i finds all = ap Ok (sym (drop_all i columns (omega (arith, all))))
  given_each (b.Column k ∷ list) i finds all =
      let is : column k ≡ column i = finds.0 in
      let here : k ≡ i = cc in
      let within : i < length columns = omega (arith, all) in
      let others : given_list line columns list ≡ Ok (drop (i + 1) columns) = given_each list (i + 1) finds.1 (omega (arith, all)) in
      ap (value_before (Value (get_or columns k Null))) others ∙ ap Ok (ap (λ (n : ℕ). get_or columns n Null ∷ drop (i + 1) columns) here ∙ sym (drop_more columns i Null within))
  given_each (b.Lit x ∷ list) i finds all = cc
  given_each (b.Exists x _ ∷ list) i finds all = cc
  given_each (b.ValueOf x clauses ∷ list) i finds all = cc
  given_each (b.Query x clauses ∷ list) i finds all = cc
  given_each (b.IsJson call ∷ list) i finds all = cc
  given_each (b.Object members on_null unique ∷ list) i finds all =
      cc (last_finds (steps_to_members members) (object (member_count members) on_null unique) (steps_to_all list) i finds).1
  given_each (b.Array values on_null ∷ list) i finds all = cc (last_finds (steps_to_values values) (array (value_count values) on_null) (steps_to_all list) i finds).1

-- ---- as many values as columns

before_counts : (o : Outcome) (r : Result (List SqlValue) State) (vs : List SqlValue) (n : ℕ) → ((ws : List SqlValue) → r ≡ Ok ws → length ws ≡ n) → value_before o r ≡ Ok vs → length vs ≡ n + 1
before_counts (Raised s) r vs n others is = cc
before_counts (Value v) (Err s) vs n others is = cc
before_counts (Value v) (Ok ws) vs n others is =
    let same : v ∷ ws ≡ vs = cc in
    let count : length ws ≡ n = others ws refl in
    omega (arith, count, ap length same)

each_counts : {A : Type 0} (f : A → Outcome) (xs : List A) (vs : List SqlValue) → each_value f xs ≡ Ok vs → length vs ≡ length xs
each_counts f [] vs is =
    let same : [] ≡ vs = cc in
    ap length (sym same)
each_counts f (x ∷ xs) vs is =
    let counts : length vs ≡ length xs + 1 = before_counts (f x) (each_value f xs) vs (length xs) (each_counts f xs) is in
    omega (arith, counts)

-- ---- a row

-- values that stay, behind a state or none
then_same : (r : Result (List SqlValue) State) (next : List SqlValue → Result (List SqlValue) State) → ((vs : List SqlValue) → r ≡ Ok vs → next vs ≡ Ok vs) → then_values r next ≡ r
then_same (Ok vs) next same = same vs refl
then_same (Err s) next same = refl

-- it has the values of the columns, or their state
pub row_is_columns : (line : Line) (table : b.Table) (list : List b.Value) (row : Row) → FindsEach 0 (steps_to_all list) → length (steps_to_all list) ≡ length (columns_of table)
    → row_of line table list row ≡ columns_given (columns_of table) row
row_is_columns line table list row finds all =
    then_same (columns_given (columns_of table) row) (λ (columns : List SqlValue). given_list line columns list)
    (λ (vs : List SqlValue) (is : columns_given (columns_of table) row ≡ Ok vs). given_each line vs list 0 finds (omega (arith, all, each_counts (column_outcome row) (columns_of table) vs is)))
