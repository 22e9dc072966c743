-- What a scan says at the end of its bytes.
use Rattle.std.proofs.Common.{◌≡◌, ℕ, ◌+◌, ◌≤◌, ⊎_elim, List, [], ◌∷◌, length, Bool, true, false, ◌&&◌, ltb, leb, Option, Some, None, is_some, refl, sym, ap, ◌∙◌, arith, le-ltb, lt-ltb}
use Rattle.std.specs.Prelude.{IsTrue, ◌↔◌}
use Rattle.std.proofs.lemmas.Bool.{cond-true, cond-false, cases_lt as order, le-leb, lt-leb, leb-true, and_parts, and_from}
use Rattle.sj_json.specs.Tree.{Tree, depth}
use Rattle.sj_json.specs.Spelling.{SpellsText, IsJson, max_length, max_depth}
use Rattle.sj_json.specs.Building.{fresh}
use Rattle.sj_json.specs.Machine as m
use Rattle.sj_json.proofs.Complete.{reading_gives}
use Rattle.sj_json.proofs.Sound.{reading_spelled}
use Rattle.sj_scan.specs.declared.utf8.Utf8.{Utf8}
use Rattle.sj_scan.specs.declared.utf8.Utf8.TheVariants.{Between}
use Rattle.sj_scan.specs.Utf8.{utf8_step, utf8_after}
use Rattle.sj_scan.specs.Modes as s
use Rattle.sj_scan.specs.Scanning.{Reached, begun, reach, steps, is_whole, StandsFor}
use Rattle.sj_scan.proofs.Texts.{ended, taken_text, text_taken}
use Rattle.sj_scan.proofs.Follows.{accepts, run_accepts}

none_steps : (bs : List ℕ) → is_whole (steps None bs) ≡ false
none_steps [] = refl
none_steps (b ∷ bs) = none_steps bs

pub none_text : (bs : List ℕ) → ended (utf8_after None bs) ≡ false
none_text [] = refl
none_text (b ∷ bs) = none_text bs

pub no_place : (bs : List ℕ) → accepts max_depth None bs ≡ false
no_place [] = refl
no_place (b ∷ bs) = refl

abbrev verdict : Bool → Option s.Place → Option Utf8 → List ℕ → Bool
verdict fits q u bs = fits && (accepts max_depth q bs && ended (utf8_after u bs))

second_false : (x y : Bool) → y ≡ false → false ≡ (x && y)
second_false true y e = sym e
second_false false y e = refl

first_false : (x y : Bool) → x ≡ false → false ≡ (x && y)
first_false true y e = cc
first_false false y e = refl

abbrev Told : List ℕ → Type 0
Told bs = (q : s.Place) (u : Utf8) (n : ℕ) → n ≤ max_length
    → is_whole (steps (Some (record { mode = q.0; containers = q.1; text = u; taken = n })) bs) ≡ verdict (leb (n + length bs) max_length) (Some q) (Some u) bs

reached_is : (bs : List ℕ) → Told bs → (q : Option s.Place) (u : Option Utf8) (n : ℕ) → n ≤ max_length → is_whole (steps (reach n q u) bs) ≡ verdict (leb (n + length bs) max_length) q u bs
reached_is bs ih None u n le = none_steps bs ∙ second_false _ _ (ap (λ (x : Bool). x && ended (utf8_after u bs)) (no_place bs))
reached_is bs ih (Some q) None n le = none_steps bs ∙ second_false _ _ (sym (second_false (accepts max_depth (Some q) bs) _ (none_text bs)))
reached_is bs ih (Some q) (Some u) n le = ih q u n le

whole_is : (bs : List ℕ) → Told bs
whole_is [] q u n le = sym (ap (λ (x : Bool). verdict x (Some q) (Some u) []) (le-leb (n + 0) max_length (omega arith)))
whole_is (b ∷ bs) q u n le =
    ⊎_elim
    (λ lt. ap (λ (o : Option Reached). is_whole (steps o bs)) (cond-true (ltb n max_length) (reach (n + 1) (s.turn max_depth q.0 q.1 b) (utf8_step u b)) None (lt-ltb n max_length lt))
    ∙ reached_is bs (whole_is bs) (s.turn max_depth q.0 q.1 b) (utf8_step u b) (n + 1) (omega (arith, lt))
    ∙ ap (λ (k : ℕ). verdict (leb k max_length) (s.turn max_depth q.0 q.1 b) (utf8_step u b) bs) (omega arith))
    (λ ge. ap (λ (o : Option Reached). is_whole (steps o bs)) (cond-false (ltb n max_length) (reach (n + 1) (s.turn max_depth q.0 q.1 b) (utf8_step u b)) None (le-ltb n max_length ge))
    ∙ none_steps bs ∙ first_false _ _ (lt-leb (n + length (b ∷ bs)) max_length (omega (arith, ge))))
    (order n max_length)

pub some_of : (o : Option Tree) → is_some o ≡ true → (t : Tree) × (o ≡ Some t)
some_of None e = cc
some_of (Some t) e = (t, refl)

verdict_of : (bs : List ℕ) → is_whole (steps (Some begun) bs) ≡ verdict (leb (0 + length bs) max_length) (Some (s.value, [])) (Some Between) bs
verdict_of bs = whole_is bs (s.value, []) Between 0 (omega arith)

pub read_is : (bs : List ℕ) → is_some (m.reading max_depth bs) ≡ accepts max_depth (Some (s.value, [])) bs
read_is bs = run_accepts max_depth bs m.value fresh (tt, tt)

pub whole_json : (h : List ℕ) → is_whole (steps (Some begun) h) ≡ true → IsJson h
whole_json h e =
    let f = and_parts (leb (0 + length h) max_length) _ (sym (verdict_of h) ∙ e) in
    let g = and_parts (accepts max_depth (Some (s.value, [])) h) (ended (utf8_after (Some Between) h)) f.1 in
    let r = some_of (m.reading max_depth h) (read_is h ∙ g.0) in
    let k : SpellsText r.0 h × (depth r.0 ≤ max_depth) = reading_spelled max_depth h r.0 r.1 in
    let le : 0 + length h ≤ max_length = leb-true (0 + length h) max_length f.0 in
    (taken_text h g.1, omega (arith, le), (r.0, k.0, k.1))

pub json_whole : (h : List ℕ) → IsJson h → is_whole (steps (Some begun) h) ≡ true
json_whole h j =
    verdict_of h
    ∙ and_from (leb (0 + length h) max_length) _ (le-leb (0 + length h) max_length (omega (arith, j.1)))
    (and_from (accepts max_depth (Some (s.value, [])) h) (ended (utf8_after (Some Between) h))
    (sym (read_is h) ∙ ap is_some (reading_gives max_depth j.2.0 h j.2.1 j.2.2))
    (ap ended (text_taken h j.0)))

pub whole_if : (h : List ℕ) (o : Option Reached) (x : Bool) → x ≡ is_whole o → StandsFor h o → IsTrue x ↔ IsJson h
whole_if h o x e f = (λ k. whole_json h (sym (e ∙ ap is_whole f) ∙ k), λ j. e ∙ ap is_whole f ∙ json_whole h j)
