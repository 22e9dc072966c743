-- IS JSON is answered as its definition has it.
use Rattle.std.proofs.Common.{◌≡◌, ◌↔◌, Bool, true, false, not, ◌&&◌, ◌||◌, IsTrue, Option, Some, None, refl, ap, ◌∙◌, true≢false, sym, if◌then◌else◌}
use Rattle.std.specs.Bool.{one_answer}
use Rattle.sj_json.specs.Tree.{Tree}
use Rattle.sj_doc.specs.Kinds.{kind_of}
use Rattle.sj_sql_grammar.specs.declared.clauses.IsJsonCall.{IsJsonCall}
use Rattle.sj_value.specs.declared.value.SqlValue.TheVariants.{Bool as truth}
use Rattle.sj_func.specs.Json.{is_of, Fits, IsJsonAs}
use Rattle.sj_func.specs.declared.context.Outcome.TheVariants.{Value}
use Rattle.sj_json.specs.UniqueKeys.{has_unique_keys}
use Rattle.sj_select_list.specs.Values.{is_json_as, is_json_outcome}
use Rattle.sj_json.proofs.Distinct.{both, unique_from, unique_to}

asked : (unique h : Bool) → (not unique || h) ≡ true → unique ≡ true → h ≡ true
asked true h e u = e
asked false h e u = cc

unless_asked : (unique h : Bool) → (unique ≡ true → h ≡ true) → (not unique || h) ≡ true
unless_asked true h e = e refl
unless_asked false h e = refl

each : (p q : Bool) → p ≡ true → q ≡ true → (p && q) ≡ true
each true q e f = f
each false q e f = e

fits_from : (call : IsJsonCall) (t : Tree) → is_json_as call (Some t) ≡ true → Fits call.kind call.unique t
fits_from call t e =
    let parts = both (is_of call.kind (kind_of t)) (not call.unique || has_unique_keys t) e in
    record { of_kind = parts.0; keys = λ u. unique_from t (asked call.unique (has_unique_keys t) parts.1 u) }

fits_to : (call : IsJsonCall) (t : Tree) → Fits call.kind call.unique t → is_json_as call (Some t) ≡ true
fits_to call t h =
    each (is_of call.kind (kind_of t)) (not call.unique || has_unique_keys t) h.of_kind (unless_asked call.unique (has_unique_keys t) (λ u. unique_to t (h.keys u)))

pub answer_is : (call : IsJsonCall) (tree : Option Tree) (answer : Bool) → (IsTrue answer ↔ IsJsonAs call.kind call.unique tree) → answer ≡ is_json_as call tree
answer_is call None answer h = one_answer answer false h (λ e. true≢false (sym e), λ x. absurd x)
answer_is call (Some t) answer h = one_answer answer (is_json_as call (Some t)) h (fits_from call t, fits_to call t)

negated_as : (negated p q : Bool) → negated ≡ true → p ≡ not q → p ≡ (if negated then not q else q)
negated_as true p q n e = e
negated_as false p q n e = cc

plain_as : (negated p q : Bool) → negated ≡ false → p ≡ q → p ≡ (if negated then not q else q)
plain_as true p q n e = cc
plain_as false p q n e = e

pub negated_is : (call : IsJsonCall) (tree : Option Tree) (found answer : Bool) → (IsTrue found ↔ IsJsonAs call.kind call.unique tree) → call.negated ≡ true → answer ≡ not found
    → Value (truth answer) ≡ is_json_outcome call tree
negated_is call tree found answer h n e = ap (λ (b : Bool). Value (truth b)) (negated_as call.negated answer (is_json_as call tree) n (e ∙ ap not (answer_is call tree found h)))

pub plain_is : (call : IsJsonCall) (tree : Option Tree) (found answer : Bool) → (IsTrue found ↔ IsJsonAs call.kind call.unique tree) → call.negated ≡ false → answer ≡ found
    → Value (truth answer) ≡ is_json_outcome call tree
plain_is call tree found answer h n e = ap (λ (b : Bool). Value (truth b)) (plain_as call.negated answer (is_json_as call tree) n (e ∙ answer_is call tree found h))
