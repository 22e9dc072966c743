-- What each function gives and may take on an item, and on a bad context.
use Rattle.std.proofs.Common.{◌≡◌, ◌≤◌, ℕ, ◌+◌, List, Bool, Option, Result, Ok, Err, IfOk, ap, sym, subst, ◌∙◌, refl, arith}
use Rattle.sj_base.specs.Count.{raised}
use Rattle.sj_base.specs.declared.memory.Memory.{Memory}
use Rattle.sj_base.specs.declared.state.State.{State}
use Rattle.sj_base.specs.declared.state.State.TheVariants.{S22034}
use Rattle.sj_path_tree.specs.declared.parts.Mode.{Mode}
use Rattle.sj_item.specs.Items.{ItemValue}
use Rattle.sj_step.specs.Trace.{Trace, items, visits, fault_of}
use Rattle.sj_cursor.specs.Answers.{exists_answer}
use Rattle.sj_cursor.specs.Single.{need, Single, bad, single}
use Rattle.sj_value.specs.declared.clauses.ExistsAction.{ExistsAction}
use Rattle.sj_value.specs.declared.clauses.QuerySpec.{QuerySpec}
use Rattle.sj_value.specs.Casts.{Cast}
use Rattle.sj_value.specs.declared.clauses.ValueAction.{ValueAction}
use Rattle.sj_value.specs.declared.clauses.ValueSpec.{ValueSpec}
use Rattle.sj_rows.specs.RowText.{HasField}
use Rattle.sj_func.specs.Fields.{AppendsOutcome}
use Rattle.sj_func.specs.Functions.{ContextValue, on_item, on_bad, answer_on, exists_given, exists_outcome, exists_cost, single_on, value_cast, value_error, value_given, value_outcome, value_cost, single_below, query_one_cost, query_error, query_items, query_all, all_below, query_all_cost}
use Rattle.sj_func.specs.declared.context.Outcome.{Outcome}
use Rattle.sj_func.specs.declared.context.Outcome.TheVariants.{Value}

-- ---- JSON_EXISTS

pub exists_item : (action : ExistsAction) (mode : Mode) (context : ContextValue) (x : ItemValue) (trace : ItemValue → Trace) (answer : Result Bool State) (outcome : Outcome)
    → context ≡ on_item x → answer ≡ exists_answer mode (trace x) → outcome ≡ exists_given action answer → outcome ≡ exists_outcome action mode context trace
unfolding exists_outcome
exists_item action mode context x trace answer outcome e k o =
    o ∙ ap (exists_given action) k ∙ sym (ap (λ d. exists_given action (answer_on d (λ y. exists_answer mode (trace y)))) e)

pub exists_bad : (action : ExistsAction) (mode : Mode) (context : ContextValue) (s : State) (trace : ItemValue → Trace) (outcome : Outcome)
    → context ≡ on_bad s → outcome ≡ exists_given action (Err s) → outcome ≡ exists_outcome action mode context trace
unfolding exists_outcome
exists_bad action mode context s trace outcome e o =
    o ∙ sym (ap (λ d. exists_given action (answer_on d (λ y. exists_answer mode (trace y)))) e)

pub exists_price : (mode : Mode) (context : ContextValue) (x : ItemValue) (trace : ItemValue → Trace) (a b : ℕ)
    → context ≡ on_item x → b ≤ raised a (need mode 1 (trace x)) → b ≤ raised a (exists_cost mode context trace)
unfolding exists_cost
exists_price mode context x trace a b e k = rw e k

-- ---- the only item

pub single_item_is : (mode : Mode) (context : ContextValue) (x : ItemValue) (trace : ItemValue → Trace) (answer : Single)
    → context ≡ on_item x → answer ≡ single mode S22034 (trace x) → answer ≡ single_on mode context trace
single_item_is mode context x trace answer e k = rw e k

pub single_bad_is : (mode : Mode) (context : ContextValue) (s : State) (trace : ItemValue → Trace) → context ≡ on_bad s → bad s ≡ single_on mode context trace
single_bad_is mode context s trace e = rw e refl

pub single_price_is : (mode : Mode) (context : ContextValue) (x : ItemValue) (trace : ItemValue → Trace) (a b : ℕ)
    → context ≡ on_item x → b ≤ raised a (need mode 2 (trace x)) → b ≤ raised a (value_cost mode context trace)
unfolding value_cost
single_price_is mode context x trace a b e k = rw e k

pub value_is : (clauses : ValueSpec) (mode : Mode) (context : ContextValue) (trace : ItemValue → Trace) (answer : Single) (r : Result Outcome Memory)
    → answer ≡ single_on mode context trace → IfOk r (λ o. o ≡ value_given clauses answer) → IfOk r (λ o. o ≡ value_outcome clauses mode context trace)
unfolding value_outcome
value_is clauses mode context trace answer r e k = subst (λ s. IfOk r (λ o. o ≡ value_given clauses s)) e k

-- the same of what is appended
pub value_appends : (clauses : ValueSpec) (mode : Mode) (context : ContextValue) (trace : ItemValue → Trace) (answer : Single) (r : Result (Option State) Memory) (old new : List ℕ)
    → answer ≡ single_on mode context trace → AppendsOutcome (value_given clauses answer) r old new → AppendsOutcome (value_outcome clauses mode context trace) r old new
unfolding value_outcome
value_appends clauses mode context trace answer r old new e k = subst (λ s. AppendsOutcome (value_given clauses s) r old new) e k

-- an item whose cast gives a value
pub cast_appends : (action : ValueAction) (cast : Cast) (old new : List ℕ) → HasField Ok cast old new → HasField Value (value_cast action cast) old new
cast_appends action cast old new h = record { value = h.value; is = ap (value_cast action) h.is; grown = h.grown }

-- and one that the cast refuses
pub refused_appends : (action : ValueAction) (cast : Cast) (s : State) (r : Result (Option State) Memory) (old mid new : List ℕ) → cast ≡ Err s → mid ≡ old → AppendsOutcome (value_error action s) r mid new → AppendsOutcome (value_cast action cast) r old new
refused_appends action cast s r old mid new e same k = subst (λ (c : Cast). AppendsOutcome (value_cast action c) r old new) (sym e) (subst (λ (l : List ℕ). AppendsOutcome (value_error action s) r l new) same k)

-- ---- JSON_QUERY without a wrapper

pub one_price : (mode : Mode) (context : ContextValue) (trace : ItemValue → Trace) (answer : Single) (a b c : ℕ)
    → answer ≡ single_on mode context trace → b ≤ raised a (value_cost mode context trace) → c ≤ raised b (single_below answer) → c ≤ raised a (query_one_cost mode context trace)
unfolding value_cost
one_price mode (on_item x) trace answer a b c e h k = omega (arith, ap single_below e, h, k)
one_price mode (on_bad s) trace answer a b c e h k = omega (arith, ap single_below e, h, k)

pub one_price_none : (mode : Mode) (context : ContextValue) (trace : ItemValue → Trace) (answer : Single) (a b : ℕ)
    → answer ≡ single_on mode context trace → b ≤ raised a (value_cost mode context trace) → b ≤ raised a (query_one_cost mode context trace)
one_price_none mode context trace answer a b e h = one_price mode context trace answer a b b e h (omega arith)

-- ---- JSON_QUERY with a wrapper

pub all_item : (clauses : QuerySpec) (context : ContextValue) (x : ItemValue) (trace : ItemValue → Trace) (t : Trace) (r : Result Outcome Memory)
    → context ≡ on_item x → t ≡ trace x → IfOk r (λ o. o ≡ query_items clauses (fault_of t) (items t)) → IfOk r (λ o. o ≡ query_all clauses context trace)
all_item clauses context x trace t r e h k = rw e (subst (λ u. IfOk r (λ o. o ≡ query_items clauses (fault_of u) (items u))) h k)

pub all_bad : (clauses : QuerySpec) (context : ContextValue) (s : State) (trace : ItemValue → Trace) (r : Result Outcome Memory)
    → context ≡ on_bad s → IfOk r (λ o. o ≡ query_error clauses.on_error s) → IfOk r (λ o. o ≡ query_all clauses context trace)
all_bad clauses context s trace r e k = rw e k

pub all_price : (context : ContextValue) (x : ItemValue) (trace : ItemValue → Trace) (t : Trace) (a b : ℕ)
    → context ≡ on_item x → t ≡ trace x → b ≤ raised a (visits t + all_below (items t)) → b ≤ raised a (query_all_cost context trace)
all_price context x trace t a b e h k = rw e (subst (λ u. b ≤ raised a (visits u + all_below (items u))) h k)
