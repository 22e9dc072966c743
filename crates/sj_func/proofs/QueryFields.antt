-- An array of items that is printed where its field stands.
use Rattle.std.proofs.Common.{◌≡◌, ℕ, ◌+◌, List, ◌∷◌, ◌++◌, Option, None, Result, Ok, Err, codes, length, take, drop, refl, sym, ap, ap₂, ◌∙◌, subst, append_assoc}
use Rattle.std.proofs.lemmas.List.{length-append, take_at, drop_at}
use Rattle.std.proofs.lemmas.Bool.{false≢true}
use Rattle.std.specs.Result.{IsErr}
use Rattle.sj_base.specs.declared.memory.Memory.{Memory}
use Rattle.sj_base.specs.declared.state.State.{State}
use Rattle.sj_json.specs.Tree.{array}
use Rattle.sj_json.specs.Printing.{printed, printed_more_items}
use Rattle.sj_item.specs.Items.{ItemValue, item_tree, gives, ends, faults}
use Rattle.sj_step.specs.Trace.{Trace, items, fault_of}
use Rattle.sj_cursor.specs.Draws.{Draws}
use Rattle.sj_text.specs.Prefixes.{AppendsPrefix}
use Rattle.sj_value.specs.declared.clauses.Wrapper.TheVariants as wrappers
use Rattle.sj_value.specs.declared.clauses.QuerySpec.{QuerySpec}
use Rattle.sj_value.specs.declared.value.SqlValue.TheVariants.{Json}
use Rattle.sj_rows.specs.RowText.{Extends, escaped, tabbed}
use Rattle.sj_func.specs.Fields.{AppendsOutcome}
use Rattle.sj_func.specs.Functions.{elements, query_error, query_empty, query_items}
use Rattle.sj_func.specs.declared.context.Outcome.{Outcome}
use Rattle.sj_func.proofs.Wrapping.{items_some, items_none, items_fault}

-- ---- where memory runs out

pub extends_by : (old new piece : List ℕ) → new ≡ old ++ piece → Extends old new
extends_by old new piece e = record { behind = piece; grown = e }

pub extends_part : (old text new : List ℕ) → AppendsPrefix old text new → Extends old new
extends_part old text new p = record { behind = p.part; grown = p.grown }

pub extends_more : (old middle new : List ℕ) → Extends old middle → Extends middle new → Extends old new
extends_more old middle new a b = record { behind = a.behind ++ b.behind; grown = b.grown ∙ ap (λ (l : List ℕ). l ++ b.behind) a.grown ∙ append_assoc old a.behind b.behind }

-- ---- the text behind the TAB

pub printed_behind : (old one two three four : List ℕ) (x : ItemValue) (xs : List ItemValue) → one ≡ old ++ codes "\t[" → two ≡ one ++ printed (item_tree x) → three ≡ two ++ printed_more_items (elements xs)
    → four ≡ three ++ codes "]" → four ≡ (old ++ codes "\t") ++ printed (array (elements (x ∷ xs)))
printed_behind old one two three four x xs e1 e2 e3 e4 =
    let p : List ℕ = printed (item_tree x) in
    let m : List ℕ = printed_more_items (elements xs) in
    e4
    ∙ ap (λ (l : List ℕ). l ++ codes "]") (e3 ∙ ap (λ (l : List ℕ). l ++ m) (e2 ∙ ap (λ (l : List ℕ). l ++ p) e1) ∙ append_assoc (old ++ codes "\t[") p m)
    ∙ append_assoc (old ++ codes "\t[") (p ++ m) (codes "]")
    ∙ append_assoc old (codes "\t[") ((p ++ m) ++ codes "]")
    ∙ sym (append_assoc old (codes "\t") (codes "[" ++ ((p ++ m) ++ codes "]")))

module _ (old four json : List ℕ) (e : four ≡ (old ++ codes "\t") ++ json) where
  long : length (old ++ codes "\t") ≡ length old + 1
  long = length-append old (codes "\t")

  pub before : take (length old + 1) four ≡ old ++ codes "\t"
  before = ap (take (length old + 1)) e ∙ take_at (old ++ codes "\t") json (length old + 1) long

  pub escaped_behind : (new : List ℕ) → new ≡ take (length old + 1) four ++ escaped (drop (length old + 1) four) → new ≡ old ++ tabbed (Json json)
  escaped_behind new made =
      made
      ∙ ap₂ (λ (a b : List ℕ). a ++ escaped b) before (ap (drop (length old + 1)) e ∙ drop_at (old ++ codes "\t") json (length old + 1) long)
      ∙ append_assoc old (codes "\t") (escaped json)

-- the field begins at the place
pub cut_extends : (old four json new : List ℕ) (place : ℕ) → place ≡ length old + 1 → four ≡ (old ++ codes "\t") ++ json → Extends (take place four) new → Extends old new
cut_extends old four json new place at e k =
    extends_more old (old ++ codes "\t") new (extends_by old (old ++ codes "\t") (codes "\t") refl) (subst (λ (l : List ℕ). Extends l new) (ap (λ (n : ℕ). take n four) at ∙ before old four json e) k)

pub field_behind : (old four json new : List ℕ) (place : ℕ) → place ≡ length old + 1 → four ≡ (old ++ codes "\t") ++ json → new ≡ take place four ++ escaped (drop place four) → new ≡ old ++ tabbed (Json json)
field_behind old four json new place at e made = escaped_behind old four json e new (made ∙ ap (λ (n : ℕ). take n four ++ escaped (drop n four)) at)

pub appends_err : (o : Outcome) (r : Result (Option State) Memory) (old new : List ℕ) → IsErr r → Extends old new → AppendsOutcome o r old new
appends_err o (Ok x) old new failed k = absurd (false≢true failed)
appends_err o (Err m) old new failed k = k

pub array_field : (clauses : QuerySpec) (x : ItemValue) (xs : List ItemValue) (fault : Option State) (old new : List ℕ) → clauses.wrapper ≡ wrappers.Unconditional → fault ≡ None
    → new ≡ old ++ tabbed (Json (printed (array (elements (x ∷ xs))))) → AppendsOutcome (query_items clauses fault (x ∷ xs)) (Ok None) old new
array_field clauses x xs fault old new w f made =
    rw (f, w) (record { value = Json (printed (array (elements (x ∷ xs)))); is = refl; grown = made })

-- ---- what is appended for all items

module _ (clauses : QuerySpec) (t t' : Trace) (a b : ℕ) (r : Result (Option State) Memory) (old new : List ℕ) where
  pub appends_some : (x : ItemValue) → Draws t (gives x) t' a b → AppendsOutcome (query_items clauses (fault_of t') (x ∷ items t')) r old new → AppendsOutcome (query_items clauses (fault_of t) (items t)) r old new
  appends_some x d k = subst (λ (o : Outcome). AppendsOutcome o r old new) (items_some clauses t t' x a b (Ok (query_items clauses (fault_of t') (x ∷ items t'))) d refl) k

  pub appends_none : Draws t ends t' a b → AppendsOutcome (query_empty clauses.on_empty) r old new → AppendsOutcome (query_items clauses (fault_of t) (items t)) r old new
  appends_none d k = subst (λ (o : Outcome). AppendsOutcome o r old new) (items_none clauses t t' a b (Ok (query_empty clauses.on_empty)) d refl) k

  pub appends_fault : (s : State) → Draws t (faults s) t' a b → AppendsOutcome (query_error clauses.on_error s) r old new → AppendsOutcome (query_items clauses (fault_of t) (items t)) r old new
  appends_fault s d k = subst (λ (o : Outcome). AppendsOutcome o r old new) (items_fault clauses t t' s a b (Ok (query_error clauses.on_error s)) d refl) k
