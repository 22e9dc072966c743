-- Steps that are performed in a loop, and what the values of a whole list are.
use Rattle.std.proofs.Common.{◌≡◌, ◌≤◌, ◌<◌, ℕ, ◌+◌, List, [], ◌∷◌, ◌++◌, length, drop, set, get_or, Option, Some, None, Result, Ok, Err, refl, sym, ap, subst, ◌∙◌, arith, add-zero}
use Rattle.std.specs.List.{All}
use Rattle.std.proofs.lemmas.List.{append-nil, drop-map, drop_more, get_or-map, length-map}
use Rattle.std.proofs.Math.Seq.{map-set_same}
use Rattle.sj_base.specs.Count.{raised}
use Rattle.std.specs.Prelude.{IfOk}
use Rattle.sj_base.specs.declared.memory.Memory.{Memory}
use Rattle.sj_base.specs.declared.state.State.{State}
use Rattle.sj_value.specs.declared.value.SqlValue.{SqlValue}
use Rattle.sj_bound.specs.Bound as b
use Rattle.sj_select_list.specs.Line.{Line}
use Rattle.sj_select_list.specs.Operations.{OperationStep, step_of, steps_of, steps_to, steps_to_all}
use Rattle.sj_select_list.specs.Performing.{CanBeGiven, StackView, EndsIn, held, done, step_cost, Performance, after, going_on, performed}
use Rattle.sj_select_list.specs.Values.{given, cost, given_list, list_cost}
use Rattle.sj_select_list.specs.declared.operation.Operation.{Operation}
use Rattle.sj_select_list.specs.Gathers.{Gathers}
use Rattle.sj_select_list.specs.declared.stack.Stack.{Stack}
use Rattle.sj_func.specs.declared.context.Outcome.{Outcome}
use Rattle.sj_func.specs.declared.context.Outcome.TheVariants.{Value, Raised}
use Rattle.sj_select_list.proofs.Performed.{list_then, with_values, found_all, value_end, one_end, one_cost}

-- ---- operations in a row

-- the step of the operation at a place, and those behind it
pub first_step : (xs : List Operation) (S : List OperationStep) (i : ℕ) (d : Operation) → i < length xs → steps_of xs ≡ S → drop i S ≡ step_of (get_or xs i d) ∷ drop (i + 1) S
first_step xs S i d within same =
    ap (drop i) (sym same) ∙ drop-map step_of i xs ∙ ap steps_of (drop_more xs i d within)
    ∙ ap (λ (l : List OperationStep). step_of (get_or xs i d) ∷ l) (sym (drop-map step_of (i + 1) xs) ∙ ap (drop (i + 1)) same)

-- an operation that was performed is of the same step
pub step_kept : (xs : List Operation) (i : ℕ) (d y : Operation) → step_of y ≡ step_of (get_or xs i d) → steps_of (set xs i y) ≡ steps_of xs
step_kept xs i d y kept = map-set_same step_of xs i y d kept

pub given_at : (xs : List Operation) (S : List OperationStep) (i : ℕ) (d : Operation) → i < length xs → steps_of xs ≡ S → All CanBeGiven S → CanBeGiven (step_of (get_or xs i d))
given_at xs S i d within same all =
    let here : All CanBeGiven (steps_of xs) = subst (λ (l : List OperationStep). All CanBeGiven l) (sym same) all in
    subst CanBeGiven (get_or-map step_of xs i d (step_of d) within) (here i (step_of d) (omega (arith, length-map xs step_of)))

-- ---- what is performed

-- nothing is held
abbrev pub nothing : StackView
nothing = record { values = []; members = [] }

-- the values alone, or the state
abbrev pub list_end : Result (List SqlValue) State → Result StackView State
list_end (Ok vs) = Ok (record { values = vs; members = [] })
list_end (Err s) = Err s

module _ (line : Line) (columns : List SqlValue) where
  -- ---- a step at a place, and those behind it

  pub end_step : (S : List OperationStep) (i : ℕ) (s : OperationStep) (h k : StackView) (whole : Result StackView State) → drop i S ≡ s ∷ drop (i + 1) S → done line columns s h ≡ Ok k
      → (performed line columns (drop i S) h).end ≡ whole → (performed line columns (drop (i + 1) S) k).end ≡ whole
  end_step S i s h k whole first is all =
      sym (ap (λ (r : Result StackView State). (going_on r (performed line columns (drop (i + 1) S))).end) is) ∙ ap (λ (l : List OperationStep). (performed line columns l h).end) (sym first) ∙ all

  pub end_stop : (S : List OperationStep) (i : ℕ) (s : OperationStep) (h : StackView) (x : State) (whole : Result StackView State) → drop i S ≡ s ∷ drop (i + 1) S → done line columns s h ≡ Err x
      → (performed line columns (drop i S) h).end ≡ whole → whole ≡ Err x
  end_stop S i s h x whole first is all =
      sym all ∙ ap (λ (l : List OperationStep). (performed line columns l h).end) first ∙ ap (λ (r : Result StackView State). (going_on r (performed line columns (drop (i + 1) S))).end) is

  pub cost_step : (S : List OperationStep) (i : ℕ) (s : OperationStep) (h k : StackView) (m n whole : ℕ) → drop i S ≡ s ∷ drop (i + 1) S → done line columns s h ≡ Ok k → n ≤ raised m (step_cost line columns s)
      → raised m (performed line columns (drop i S) h).cost ≤ whole → raised n (performed line columns (drop (i + 1) S) k).cost ≤ whole
  cost_step S i s h k m n whole first is spent all =
      let same : (performed line columns (drop i S) h).cost ≡ step_cost line columns s + (performed line columns (drop (i + 1) S) k).cost =
      ap (λ (l : List OperationStep). (performed line columns l h).cost) first ∙ ap (λ (r : Result StackView State). step_cost line columns s + (going_on r (performed line columns (drop (i + 1) S))).cost) is in
      omega (arith, same, spent, all)

  pub cost_stop : (S : List OperationStep) (i : ℕ) (s : OperationStep) (h : StackView) (m n whole : ℕ) → drop i S ≡ s ∷ drop (i + 1) S → n ≤ raised m (step_cost line columns s)
      → raised m (performed line columns (drop i S) h).cost ≤ whole → n ≤ whole
  cost_stop S i s h m n whole first spent all =
      let same : (performed line columns (drop i S) h).cost ≡ step_cost line columns s + (going_on (done line columns s h) (performed line columns (drop (i + 1) S))).cost =
      ap (λ (l : List OperationStep). (performed line columns l h).cost) first in
      omega (arith, same, spent, all)

  -- ---- all steps of a list of values

  list_ends : (n : ℕ) (r : Result (List SqlValue) State) → (after n (list_then r (λ vs. performed line columns [] (with_values vs nothing)))).end ≡ list_end r
  list_ends n (Ok vs) = refl
  list_ends n (Err s) = refl

  list_costs : (n : ℕ) (r : Result (List SqlValue) State) → (after n (list_then r (λ vs. performed line columns [] (with_values vs nothing)))).cost ≡ n
  list_costs n (Ok vs) = add-zero n
  list_costs n (Err s) = add-zero n

  pub all_end : (xs : List b.Value) → (performed line columns (steps_to_all xs) nothing).end ≡ list_end (given_list line columns xs)
  all_end xs = ap (λ (p : Performance). p.end) (found_all line columns xs nothing) ∙ list_ends (list_cost line columns xs) (given_list line columns xs)

  pub all_cost : (xs : List b.Value) → (performed line columns (steps_to_all xs) nothing).cost ≡ list_cost line columns xs
  all_cost xs = ap (λ (p : Performance). p.cost) (found_all line columns xs nothing) ∙ list_costs (list_cost line columns xs) (given_list line columns xs)

-- ---- steps that were performed from nothing

pub empty_held : (p : Stack) → p.values.items ≡ [] → p.members.items ≡ [] → held p ≡ nothing
empty_held p values members = cc

module _ (line : Line) (columns : List SqlValue) (steps : List OperationStep) (h : StackView) (empty : h ≡ nothing) where
  -- ---- those of a list of values

  module _ (xs : List b.Value) (finds : steps ≡ steps_to_all xs) where
    list_whole : (performed line columns steps h).end ≡ list_end (given_list line columns xs)
    list_whole = ap (λ (k : StackView). (performed line columns steps k).end) empty ∙ ap (λ (l : List OperationStep). (performed line columns l nothing).end) finds ∙ all_end line columns xs

    pub list_price : (performed line columns steps h).cost ≡ list_cost line columns xs
    list_price = ap (λ (k : StackView). (performed line columns steps k).cost) empty ∙ ap (λ (l : List OperationStep). (performed line columns l nothing).cost) finds ∙ all_cost line columns xs

    list_ok : (r : Result (List SqlValue) State) (k : StackView) → list_end r ≡ Ok k → r ≡ Ok k.values
    list_ok (Ok vs) k e =
        let same : vs ≡ k.values = cc in
        ap Ok same
    list_ok (Err s) k e = cc

    list_err : (r : Result (List SqlValue) State) (s : State) → list_end r ≡ Err s → r ≡ Err s
    list_err (Ok vs) s e = cc
    list_err (Err x) s e =
        let same : x ≡ s = cc in
        ap Err same

    pub list_gathers : (raised : Option State) (k : StackView) → EndsIn (performed line columns steps h).end raised k → Gathers (given_list line columns xs) raised k.values
    list_gathers None k e = list_ok (given_list line columns xs) k (sym list_whole ∙ e)
    list_gathers (Some s) k e = list_err (given_list line columns xs) s (sym list_whole ∙ e)

    -- what finding answers, where memory suffices
    pub gathers_ok : (r : Result (Option State) Memory) (p : Stack) → IfOk r (λ raised. EndsIn (performed line columns steps h).end raised (held p)) → IfOk r (λ raised. Gathers (given_list line columns xs) raised p.values.items)
    gathers_ok (Ok raised) p e = list_gathers raised (held p) e
    gathers_ok (Err m) p e = tt

  -- ---- those of one value

  module _ (x : b.Value) (finds : steps ≡ steps_to x) where
    value_whole : (performed line columns steps h).end ≡ value_end (given line columns x)
    value_whole = ap (λ (k : StackView). (performed line columns steps k).end) empty ∙ ap (λ (l : List OperationStep). (performed line columns l nothing).end) finds ∙ one_end line columns x

    pub value_price : (performed line columns steps h).cost ≡ cost line columns x
    value_price = ap (λ (k : StackView). (performed line columns steps k).cost) empty ∙ ap (λ (l : List OperationStep). (performed line columns l nothing).cost) finds ∙ one_cost line columns x

    value_ok : (o : Outcome) (k : StackView) → value_end o ≡ Ok k → (v : SqlValue) × (o ≡ Value v) × (k.values ≡ v ∷ [])
    value_ok (Value v) k e = (v, refl, cc)
    value_ok (Raised s) k e =
        let no : ⊥ = cc in
        absurd no

    value_err : (o : Outcome) (s : State) → value_end o ≡ Err s → o ≡ Raised s
    value_err (Value v) s e = cc
    value_err (Raised x) s e =
        let same : x ≡ s = cc in
        ap Raised same

    -- the value that was found is the only one
    pub value_found : (k : StackView) → (performed line columns steps h).end ≡ Ok k → (v : SqlValue) × (given line columns x ≡ Value v) × (k.values ≡ v ∷ [])
    value_found k e = value_ok (given line columns x) k (sym value_whole ∙ e)

    pub value_raised : (s : State) → (performed line columns steps h).end ≡ Err s → given line columns x ≡ Raised s
    value_raised s e = value_err (given line columns x) s (sym value_whole ∙ e)

-- ---- the only value of a list

pub only_last : (vs : List SqlValue) (v x : SqlValue) (others : List SqlValue) → vs ≡ v ∷ [] → vs ≡ others ++ x ∷ [] → x ≡ v
only_last vs v x [] e f = cc
only_last vs v x (y ∷ []) e f =
    let no : ⊥ = cc in
    absurd no
only_last vs v x (y ∷ z ∷ others) e f =
    let no : ⊥ = cc in
    absurd no

-- a list of one value is not what is left of it where nothing is taken, and nothing is left
pub not_none : (vs : List SqlValue) (v : SqlValue) → vs ≡ v ∷ [] → (others : List SqlValue) → vs ≡ others ++ [] → others ≡ [] → ⊥
not_none vs v e others f none =
    let no : v ∷ [] ≡ [] = sym e ∙ f ∙ append-nil others ∙ none in
    cc
