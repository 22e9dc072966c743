-- Operations that print one value of a list each, and what the fields of the whole list are.
use Rattle.std.proofs.Common.{◌≡◌, ◌≤◌, ◌<◌, ℕ, ◌+◌, List, [], ◌∷◌, ◌++◌, true, false, length, drop, get_or, Option, Some, None, Result, Ok, Err, inl, inr, refl, sym, ap, subst, ◌∙◌, arith, append_assoc}
use Rattle.std.specs.List.{flat_map}
use Rattle.std.specs.Result.{IsErr}
use Rattle.std.proofs.lemmas.List.{append-nil, get_or-map}
use Rattle.std.proofs.lemmas.Bool.{cases_eq}
use Rattle.std.proofs.lemmas.List.Concat.{flat_map-append}
use Rattle.sj_base.specs.Count.{raised}
use Rattle.sj_base.specs.declared.memory.Memory.{Memory}
use Rattle.sj_base.specs.declared.state.State.{State}
use Rattle.sj_value.specs.declared.value.SqlValue.{SqlValue}
use Rattle.sj_text.specs.Prefixes.{AppendsPrefix}
use Rattle.sj_rows.specs.RowText.{tabbed, Extends, HasField}
use Rattle.sj_rows.proofs.Extending.{extends_by, extends_more}
use Rattle.sj_func.specs.declared.context.Outcome.{Outcome}
use Rattle.sj_func.specs.declared.context.Outcome.TheVariants.{Value, Raised}
use Rattle.sj_bound.specs.Bound as b
use Rattle.sj_select_list.specs.Gathers.{Gathers}
use Rattle.sj_select_list.specs.Line.{Line}
use Rattle.sj_select_list.specs.Operations.{OperationStep, literal, column, exists, value, query, is_json, member, object, array, step_of, steps_of, steps_to_all}
use Rattle.sj_select_list.specs.Performing.{StackView, put, done, step_cost, performed}
use Rattle.sj_select_list.specs.Printing.{HasFields, AppendsList, FindsValue, found_by, only, HoldsFields, AppendsSteps}
use Rattle.sj_select_list.specs.Values.{given_list}
use Rattle.sj_select_list.specs.declared.operation.Operation.{Operation}
use Rattle.sj_select_list.proofs.FoundValues.{end_step, end_stop, cost_step, cost_stop, list_gathers}

-- what such an operation does with a stack
pub done_is : (line : Line) (columns : List SqlValue) (s : OperationStep) (h : StackView) → FindsValue s → done line columns s h ≡ put (found_by line columns s) h
done_is line columns (literal x) h is = refl
done_is line columns (column n) h is = refl
done_is line columns (exists x action) h is = refl
done_is line columns (value x clauses) h is = refl
done_is line columns (query x clauses) h is = refl
done_is line columns (is_json call) h is = refl
done_is line columns member h is = cc
done_is line columns (object n _ unique) h is = cc
done_is line columns (array n _) h is = cc

-- ---- in the middle of a list

module _ (line : Line) (columns : List SqlValue) where
  -- the values so far are held, and their fields stand there
  pub record HasCome (S : List OperationStep) (i : ℕ) (old now : List ℕ) (m n : ℕ) : Type 0 where
    pub values : List SqlValue
    pub grown : now ≡ old ++ flat_map tabbed values
    pub ends : (performed line columns (drop i S) (only values)).end ≡ (performed line columns S (only [])).end
    pub costs : raised n (performed line columns (drop i S) (only values)).cost ≤ raised m (performed line columns S (only [])).cost

  pub come_none : (S : List OperationStep) (old : List ℕ) (m : ℕ) → HasCome S 0 old old m m
  come_none S old m = record { values = []; grown = sym (append-nil old); ends = refl; costs = omega arith }

  module _ (S : List OperationStep) (i : ℕ) (s : OperationStep) (old now : List ℕ) (m n : ℕ) (come : HasCome S i old now m n) (first : drop i S ≡ s ∷ drop (i + 1) S) (finds : FindsValue s) where
    does : (o : Outcome) → found_by line columns s ≡ o → done line columns s (only come.values) ≡ put o (only come.values)
    does o is = done_is line columns s (only come.values) finds ∙ ap (λ (p : Outcome). put p (only come.values)) is

    pub come_more : (new : List ℕ) (k : ℕ) → HasField Value (found_by line columns s) now new → k ≤ raised n (step_cost line columns s) → HasCome S (i + 1) old new m k
    come_more new k h spent = record {
      values = come.values ++ h.value ∷ [];
      grown = h.grown ∙ ap (λ (l : List ℕ). l ++ tabbed h.value) come.grown ∙ append_assoc old (flat_map tabbed come.values) (tabbed h.value)
          ∙ ap (λ (l : List ℕ). old ++ l) (ap (λ (l : List ℕ). flat_map tabbed come.values ++ l) (sym (append-nil (tabbed h.value))) ∙ sym (flat_map-append tabbed come.values (h.value ∷ [])));
      ends = end_step line columns S i s (only come.values) (only (come.values ++ h.value ∷ [])) _ first (does (Value h.value) h.is) come.ends;
      costs = cost_step line columns S i s (only come.values) (only (come.values ++ h.value ∷ [])) n k _ first (does (Value h.value) h.is) spent come.costs;
    }

    pub come_raised : (new : List ℕ) (x : State) → found_by line columns s ≡ Raised x → new ≡ now → ((performed line columns S (only [])).end ≡ Err x) × Extends old new
    come_raised new x is same =
        (end_stop line columns S i s (only come.values) x _ first (does (Raised x) is) come.ends, extends_by old (flat_map tabbed come.values) new (same ∙ come.grown))

    pub come_within : (k : ℕ) → k ≤ raised n (step_cost line columns s) → k ≤ raised m (performed line columns S (only [])).cost
    come_within k spent = cost_stop line columns S i s (only come.values) n k _ first spent come.costs

    pub come_extends : (new : List ℕ) → Extends now new → Extends old new
    come_extends new more = extends_more old now new (extends_by old (flat_map tabbed come.values) now come.grown) more

  -- all have come
  pub come_end : (S : List OperationStep) (i : ℕ) (old now : List ℕ) (m n : ℕ) → HasCome S i old now m n → drop i S ≡ [] → HoldsFields (performed line columns S (only [])).end old now
  come_end S i old now m n come none = record {
    values = come.values;
    is = sym come.ends ∙ ap (λ (l : List OperationStep). (performed line columns l (only come.values)).end) none;
    grown = come.grown;
  }

  pub come_cost : (S : List OperationStep) (i : ℕ) (old now : List ℕ) (m n : ℕ) → HasCome S i old now m n → n ≤ raised m (performed line columns S (only [])).cost
  come_cost S i old now m n come = omega (arith, come.costs)

-- ---- the whole list

pub list_appends : (line : Line) (columns : List SqlValue) (S : List OperationStep) (list : List b.Value) → S ≡ steps_to_all list → (r : Result (Option State) Memory) (old new : List ℕ)
    → AppendsSteps (performed line columns S (only [])).end r old new → AppendsList (given_list line columns list) r old new
list_appends line columns S list finds (Ok None) old new a = record { values = a.values; is = list_gathers line columns S (only []) refl list finds None (only a.values) a.is; grown = a.grown }
list_appends line columns S list finds (Ok (Some s)) old new a = (list_gathers line columns S (only []) refl list finds (Some s) (only []) a.0, a.1)
list_appends line columns S list finds (Err m) old new a = a

-- its values were found on the stack first
pub found_appends : (end : Result (List SqlValue) State) (values : List SqlValue) (old new : List ℕ) → Gathers end None values → new ≡ old ++ flat_map tabbed values → HasFields end old new
found_appends end values old new is grown = record { values = values; is = is; grown = grown }

-- ---- where memory runs out

pub steps_stopped : (end : Result StackView State) (r : Result (Option State) Memory) (old new : List ℕ) → IsErr r → Extends old new → AppendsSteps end r old new
steps_stopped end (Ok x) old new e more =
    let never : false ≡ true = e in
    let no : ⊥ = cc in
    absurd no
steps_stopped end (Err m) old new e more = more

pub list_stopped : (end : Result (List SqlValue) State) (r : Result (Option State) Memory) (old new : List ℕ) → IsErr r → Extends old new → AppendsList end r old new
list_stopped end (Ok x) old new e more =
    let never : false ≡ true = e in
    let no : ⊥ = cc in
    absurd no
list_stopped end (Err m) old new e more = more

pub front_extends : (old text new : List ℕ) → AppendsPrefix old text new → Extends old new
front_extends old text new p = record { behind = p.part; grown = p.grown }

-- ---- operations that find a value each

pub values_more : (ops : List Operation) (i : ℕ) (x : Operation) → i < length ops → FindsValue (step_of (get_or ops i x)) → ((k : ℕ) (d : OperationStep) → k < i → FindsValue (get_or (steps_of ops) k d))
    → (k : ℕ) (d : OperationStep) → k < i + 1 → FindsValue (get_or (steps_of ops) k d)
values_more ops i x within here before k d lt = elim (cases_eq k i) [
  | inl is ↦ subst (λ (n : ℕ). FindsValue (get_or (steps_of ops) n d)) (sym is) (subst FindsValue (sym (get_or-map step_of ops i x d within)) here)
  | inr ne ↦ before k d (omega (arith, lt, ne))
]
