-- The number that bytes spell is what the function gives.
use Rattle.std.proofs.Common.{◌≡◌, ℕ, List, Bool, true, false, cond, Option, Some, None, option_map, ℤ, refl, sym, ap, ◌∙◌, subst}
use Rattle.std.proofs.lemmas.Bool.{false≢true}
use Rattle.sj_decimal.specs.Normal.{normal}
use Rattle.sj_decimal.specs.Exact.{is_exact}
use Rattle.sj_decimal.specs.Number.{NumberParts, IsNumberOf, IsNumber, value_of, SpellsExact, SpellsWide}
use Rattle.sj_decimal.specs.Number as number
use Rattle.sj_decimal.specs.Reading.{read_parts}
use Rattle.sj_decimal.proofs.Exactness.{exact_is, exact_true, exact_false}
use Rattle.sj_decimal.proofs.Readings.{read_parts_full, read_parts_sound}
use Rattle.sj_json.specs.Tree.{Number, exact, wide}
use Rattle.sj_json.specs.Spelling.{SpellsNumber}
use Rattle.sj_json.specs.Numbers.{classified, number_of}

by_test : (b : List ℕ) (v : ℤ × ℕ) → number.SpellsNumber b v → (x : Bool) → is_exact v ≡ x → SpellsNumber (cond x (exact (normal v)) (wide b)) b
by_test b v h true e = record { value = v; spells = h; exact = exact_is v e; normal_form = refl }
by_test b v h false e = (record { value = v; spells = h; wide = λ k. false≢true (sym e ∙ exact_true v k) }, refl)

same_number : {v w : Number} → Some v ≡ Some w → v ≡ w
same_number e = cc

sound_from : (b : List ℕ) (o : Option NumberParts) → read_parts b ≡ o → (v : Number) → option_map (λ (p : NumberParts). classified b (value_of p)) o ≡ Some v → SpellsNumber v b
sound_from b None e v f = cc
sound_from b (Some p) e v f =
    subst (λ (w : Number). SpellsNumber w b) (same_number f)
    (by_test b (value_of p) (record { parts = p; number = read_parts_sound b p e; value = refl }) (is_exact (value_of p)) refl)

pub number_sound : (b : List ℕ) (v : Number) → number_of b ≡ Some v → SpellsNumber v b
unfolding number_of
number_sound b v e = sound_from b (read_parts b) refl v e

-- the number of bytes whose parts are known
read_as : (b : List ℕ) (v : ℤ × ℕ) (h : number.SpellsNumber b v) → number_of b ≡ Some (classified b v)
unfolding number_of
read_as b v h =
    ap (option_map (λ (p : NumberParts). classified b (value_of p))) (read_parts_full h.parts b h.number) ∙ ap (λ (w : ℤ × ℕ). Some (classified b w)) (sym h.value)

-- a number spells one
pub number_some : (b : List ℕ) → IsNumber b → (v : Number) × (number_of b ≡ Some v)
number_some b h = (classified b h.0, read_as b h.0 h.1)

pub number_complete : (v : Number) (b : List ℕ) → SpellsNumber v b → number_of b ≡ Some v
number_complete (exact d) b h =
    read_as b h.value h.spells
    ∙ ap (λ (x : Bool). Some (cond x (exact (normal h.value)) (wide b))) (exact_true h.value h.exact)
    ∙ ap (λ (c : ℤ × ℕ). Some (exact c)) (sym h.normal_form)
number_complete (wide s) b h =
    let w = h.0 in
    read_as b w.value w.spells
    ∙ ap (λ (x : Bool). Some (cond x (exact (normal w.value)) (wide b))) (exact_false w.value w.wide)
    ∙ ap (λ (c : List ℕ). Some (wide c)) h.1

spelled_value : (v : Number) (b : List ℕ) → SpellsNumber v b → IsNumber b
spelled_value (exact d) b h = (h.value, h.spells)
spelled_value (wide s) b h = (h.0.value, h.0.spells)

none_from : (b : List ℕ) (o : Option Number) → number_of b ≡ o → (IsNumber b → ⊥) → o ≡ None
none_from b None e other = refl
none_from b (Some v) e other = absurd (other (spelled_value v b (number_sound b v e)))

-- bytes that are no number have none
pub number_none : (b : List ℕ) → (IsNumber b → ⊥) → number_of b ≡ None
number_none b other = none_from b (number_of b) refl other
