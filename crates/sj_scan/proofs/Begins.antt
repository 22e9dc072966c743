-- A scan goes on exactly as long as its bytes begin a text.
use Rattle.std.proofs.Common.{◌≡◌, ℕ, ◌+◌, ◌<◌, ◌≤◌, ◌⊎◌, inl, inr, ⊎_elim, List, [], ◌∷◌, ◌++◌, length, Bool, true, false, ltb, Option, Some, None, IfSome, is_some, refl, sym, ap, ◌∙◌, subst, arith, le-ltb, lt-ltb, ap₂}
use Rattle.std.specs.Prelude.{IsTrue, ◌↔◌}
use Rattle.std.proofs.lemmas.Bool.{cond-true, cond-false, cases_lt as order}
use Rattle.sj_json.specs.Tree.{depth}
use Rattle.sj_json.specs.Spelling.{SpellsText, max_length, max_depth}
use Rattle.sj_json.specs.Machine as m
use Rattle.sj_json.proofs.Complete.{reading_gives}
use Rattle.sj_json.proofs.Sound.{reading_spelled}
use Rattle.sj_scan.specs.declared.utf8.Utf8.{Utf8}
use Rattle.sj_scan.specs.declared.utf8.Utf8.TheVariants.{Between, OneMore, TwoMore, AfterE0, AfterEd, ThreeMore, AfterF0, AfterF4}
use Rattle.sj_scan.specs.declared.mode.Container.{Container}
use Rattle.sj_scan.specs.Utf8.{within, utf8_step, utf8_after}
use Rattle.sj_scan.specs.Modes as s
use Rattle.sj_scan.specs.Scanning.{Reached, begun, reach, step, steps, open_count, StandsFor}
use Rattle.sj_scan.specs.Beginnings.{IsText, BeginsText}
use Rattle.sj_scan.proofs.Texts.{ended, taken_text, text_taken}
use Rattle.sj_scan.proofs.Follows.{accepts}
use Rattle.sj_scan.proofs.Wholes.{some_of, read_is, no_place, none_text}
use Rattle.sj_scan.proofs.Endings.{Lively, ending, ending_taken, ending_ascii, ascii_taken, char_end, char_taken, char_in_string}
use Rattle.sj_scan.specs.Opened.{Quoting, opened_from, opened_at_end}
use Rattle.sj_scan.proofs.Counts.{quoting_of, Counted, turn_counts}
use Rattle.sj_scan.proofs.Lives.{InString, turn_lives, turn_in_string}

none_is : {A : Type 0} {P : Type 0} (x : A) → ◌≡◌ {A = Option A} None (Some x) → P
none_is x h = cc

some_same : {A : Type 0} (x y : A) → Some x ≡ Some y → x ≡ y
some_same x y h = cc

from_some : {A : Type 0} (P : A → Type 0) (o : Option A) (x : A) → IfSome o P → o ≡ Some x → P x
from_some P None x h e = none_is x e
from_some P (Some y) x h e = subst P (some_same y x e) h

false_is : {P : Type 0} → false ≡ true → P
false_is h = cc

-- ---- what is known of a place behind n bytes

record Alive (n : ℕ) (r : Reached) : Type 0 where
  lively : Lively r.mode
  text : (r.text ≡ Between) ⊎ InString r.mode
  count : r.taken ≡ n
  short : n ≤ max_length

refused : (from to : ℕ) (next : Utf8) (b : ℕ) (w : Utf8) → b < from → within from to next b ≡ Some w → w ≡ Between
refused from to next b w h e = none_is w (sym (cond-true (ltb b from) None _ (lt-ltb b from h)) ∙ e)

-- behind an ASCII byte no character is open
low_byte : (u : Utf8) (b : ℕ) (w : Utf8) → utf8_step u b ≡ Some w → b < 128 → w ≡ Between
low_byte Between b w e h = sym (some_same Between w (sym (cond-true (ltb b 128) (Some Between) _ (lt-ltb b 128 h)) ∙ e))
low_byte OneMore b w e h = refused 128 191 Between b w h e
low_byte TwoMore b w e h = refused 128 191 OneMore b w h e
low_byte AfterE0 b w e h = refused 160 191 OneMore b w (omega arith) e
low_byte AfterEd b w e h = refused 128 159 OneMore b w h e
low_byte ThreeMore b w e h = refused 128 191 TwoMore b w h e
low_byte AfterF0 b w e h = refused 144 191 TwoMore b w (omega arith) e
low_byte AfterF4 b w e h = refused 128 143 TwoMore b w h e

-- one step, and what it says of the place and the text
record Moved (r : Reached) (b : ℕ) (next : Reached) : Type 0 where
  place : s.turn max_depth r.mode r.containers b ≡ Some (next.mode, next.containers)
  character : utf8_step r.text b ≡ Some next.text
  count : next.taken ≡ r.taken + 1
  short : r.taken < max_length

reached : (q : Option s.Place) (u : Option Utf8) (n : ℕ) (next : Reached) → reach n q u ≡ Some next → (q ≡ Some (next.mode, next.containers)) × (u ≡ Some next.text) × (next.taken ≡ n)
reached None u n next e = none_is next e
reached (Some p) None n next e = none_is next e
reached (Some p) (Some u) n next e =
    let same : record { mode = p.0; containers = p.1; text = u; taken = n } ≡ next = some_same (record { mode = p.0; containers = p.1; text = u; taken = n }) next e in
    (ap (λ (r : Reached). Some (r.mode, r.containers)) same, ap (λ (r : Reached). Some r.text) same, sym (ap (λ (r : Reached). r.taken) same))

moved : (r : Reached) (b : ℕ) (next : Reached) → step r b ≡ Some next → Moved r b next
moved r b next e =
    ⊎_elim
    (λ lt. let p = reached (s.turn max_depth r.mode r.containers b) (utf8_step r.text b) (r.taken + 1) next (sym (cond-true (ltb r.taken max_length) _ None (lt-ltb r.taken max_length lt)) ∙ e) in
    record { place = p.0; character = p.1; count = p.2; short = lt })
    (λ ge. none_is next (sym (cond-false (ltb r.taken max_length) _ None (le-ltb r.taken max_length ge)) ∙ e))
    (order r.taken max_length)

stepped : (n : ℕ) (r : Reached) (b : ℕ) (next : Reached) → Alive n r → Moved r b next → Alive (n + 1) next
stepped n r b next h k =
    record {
      lively = from_some (λ (p : s.Place). Lively p.0) (s.turn max_depth r.mode r.containers b) (next.mode, next.containers) (turn_lives max_depth r.mode r.containers b h.lively) k.place;
      text = ⊎_elim
          (λ lt. inl (low_byte r.text b next.text k.character lt))
          (λ ge. inr (from_some (λ (p : s.Place). InString p.0) (s.turn max_depth r.mode r.containers b) (next.mode, next.containers) (turn_in_string max_depth b ge r.mode r.containers h.lively) k.place))
          (order b 128);
      count = k.count ∙ ap (λ (i : ℕ). i + 1) h.count;
      short = omega (arith, k.short, h.count);
    }

no_steps : (h : List ℕ) (next : Reached) {P : Type 0} → steps None h ≡ Some next → P
no_steps [] next e = none_is next e
no_steps (b ∷ h) next e = no_steps h next e

-- ---- a place behind bytes

record Came (n : ℕ) (h : List ℕ) (r next : Reached) : Type 0 where
  alive : Alive (n + length h) next
  place : (rest : List ℕ) → accepts max_depth (Some (r.mode, r.containers)) (h ++ rest) ≡ accepts max_depth (Some (next.mode, next.containers)) rest
  text : (rest : List ℕ) → utf8_after (Some r.text) (h ++ rest) ≡ utf8_after (Some next.text) rest
  count : length next.containers ≡ opened_from (quoting_of r.mode) (length r.containers) h

nothing_came : (n : ℕ) (r next : Reached) → Alive n r → r ≡ next → Came n [] r next
nothing_came n r next h e =
    subst (Came n [] r) e (record { alive = subst (λ (i : ℕ). Alive i r) (omega arith) h; place = λ rest. refl; text = λ rest. refl; count = refl })

one_came : (n : ℕ) (b : ℕ) (h : List ℕ) (r first next : Reached) → Lively r.mode → Moved r b first → Came (n + 1) h first next → Came n (b ∷ h) r next
one_came n b h r first next l k c =
    let o = from_some (Counted (quoting_of r.mode) (length r.containers) b) (s.turn max_depth r.mode r.containers b) (first.mode, first.containers) (turn_counts max_depth r.mode r.containers b l) k.place in
    record {
      count = c.count ∙ ap₂ (λ (q : Quoting) (i : ℕ). opened_from q i h) o.0 o.1;
      alive = subst (λ (i : ℕ). Alive i next) (omega arith) c.alive;
      place = λ rest. ap (λ (q : Option s.Place). accepts max_depth q (h ++ rest)) k.place ∙ c.place rest;
      text = λ rest. ap (λ (u : Option Utf8). utf8_after u (h ++ rest)) k.character ∙ c.text rest;
    }

came_on : (n : ℕ) (b : ℕ) (h : List ℕ) (r next : Reached) → Alive n r → ((first : Reached) → Alive (n + 1) first → steps (Some first) h ≡ Some next → Came (n + 1) h first next)
    → (o : Option Reached) → step r b ≡ o → steps o h ≡ Some next → Came n (b ∷ h) r next
came_on n b h r next a ih None e f = no_steps h next f
came_on n b h r next a ih (Some first) e f = let k = moved r b first e in one_came n b h r first next a.lively k (ih first (stepped n r b first a k) f)

came : (h : List ℕ) (n : ℕ) (r next : Reached) → Alive n r → steps (Some r) h ≡ Some next → Came n h r next
came [] n r next a e = nothing_came n r next a (some_same r next e)
came (b ∷ h) n r next a e = came_on n b h r next a (λ first k f. came h (n + 1) first next k f) (step r b) refl e

begun_alive : Alive 0 begun
begun_alive = record { lively = tt; text = inl refl; count = refl; short = omega arith }

-- ---- a text from a place that is reached

is_text : (b : List ℕ) → accepts max_depth (Some (s.value, [])) b ≡ true → ended (utf8_after (Some Between) b) ≡ true → IsText b
is_text b e f =
    let r = some_of (m.reading max_depth b) (read_is b ∙ e) in
    let k : SpellsText r.0 b × (depth r.0 ≤ max_depth) = reading_spelled max_depth b r.0 r.1 in
    (taken_text b f, (r.0, k.0, k.1))

abbrev rest_of : Reached → List ℕ
rest_of r = char_end r.text (ending r.mode r.containers)

rest_taken : (o : s.Mode) (cs : List Container) (u : Utf8) → Lively o → (u ≡ Between) ⊎ InString o → accepts max_depth (Some (o, cs)) (char_end u (ending o cs)) ≡ true
rest_taken o cs u h (inl e) = ap (λ (v : Utf8). accepts max_depth (Some (o, cs)) (char_end v (ending o cs))) e ∙ ending_taken o cs h
rest_taken o cs u h (inr (k, e)) =
    ap (λ (n : s.Mode). accepts max_depth (Some (n, cs)) (char_end u (ending n cs))) e ∙ char_in_string u k cs (ending (s.quoted k) cs) (ending_taken (s.quoted k) cs tt)

rest_text : (o : s.Mode) (cs : List Container) (u : Utf8) → Lively o → ended (utf8_after (Some u) (char_end u (ending o cs))) ≡ true
rest_text o cs u h = ap ended (char_taken u (ending o cs) ∙ ascii_taken (ending o cs) (ending_ascii o cs h))

pub reached_begins : (h : List ℕ) (next : Reached) → steps (Some begun) h ≡ Some next → BeginsText h
reached_begins h next e =
    let c = came h 0 begun next begun_alive e in
    let a : Alive (0 + length h) next = c.alive in (
      omega (arith, a.short),
      (rest_of next, is_text (h ++ rest_of next) (c.place (rest_of next) ∙ rest_taken next.mode next.containers next.text a.lively a.text) (ap ended (c.text (rest_of next)) ∙ rest_text next.mode next.containers next.text a.lively)),
    )

-- ---- the bytes of a text are taken

abbrev Live : List ℕ → Type 0
Live h = (r : Reached) (rest : List ℕ) → r.taken + length h ≤ max_length → accepts max_depth (Some (r.mode, r.containers)) (h ++ rest) ≡ true → ended (utf8_after (Some r.text) (h ++ rest)) ≡ true
    → is_some (steps (Some r) h) ≡ true

live_on : (h : List ℕ) → Live h → (q : Option s.Place) (u : Option Utf8) (n : ℕ) (rest : List ℕ) → n + length h ≤ max_length → accepts max_depth q (h ++ rest) ≡ true → ended (utf8_after u (h ++ rest)) ≡ true
    → is_some (steps (reach n q u) h) ≡ true
live_on h ih None u n rest le e f = false_is (sym (no_place (h ++ rest)) ∙ e)
live_on h ih (Some p) None n rest le e f = false_is (sym (none_text (h ++ rest)) ∙ f)
live_on h ih (Some p) (Some u) n rest le e f = ih (record { mode = p.0; containers = p.1; text = u; taken = n }) rest le e f

live : (h : List ℕ) → Live h
live [] r rest le e f = refl
live (b ∷ h) r rest le e f =
    let lt : r.taken < max_length = omega (arith, le) in
    ap (λ (o : Option Reached). is_some (steps o h)) (cond-true (ltb r.taken max_length) (reach (r.taken + 1) (s.turn max_depth r.mode r.containers b) (utf8_step r.text b)) None (lt-ltb r.taken max_length lt))
    ∙ live_on h (live h) (s.turn max_depth r.mode r.containers b) (utf8_step r.text b) (r.taken + 1) rest (omega (arith, le)) e f

pub begins_reached : (h : List ℕ) → BeginsText h → is_some (steps (Some begun) h) ≡ true
begins_reached h j =
    let rest = j.1.0 in
    let t = j.1.1 in
    live h begun rest (omega (arith, j.0)) (sym (read_is (h ++ rest)) ∙ ap is_some (reading_gives max_depth t.1.0 (h ++ rest) t.1.1 t.1.2)) (ap ended (text_taken (h ++ rest) t.0))

some_reached : (o : Option Reached) → is_some o ≡ true → (r : Reached) × (o ≡ Some r)
some_reached None e = false_is e
some_reached (Some r) e = (r, refl)

pub begins_if : (h : List ℕ) (o : Option Reached) (x : Bool) → x ≡ is_some o → StandsFor h o → IsTrue x ↔ BeginsText h
begins_if h o x e f =
    (λ k. let r = some_reached o (sym e ∙ k) in reached_begins h r.0 (sym f ∙ r.1), λ j. e ∙ ap is_some f ∙ begins_reached h j)

-- what is held of bytes that begin one
pub opened_held : (h : List ℕ) (o : Option Reached) → StandsFor h o → BeginsText h → open_count o ≡ opened_at_end h
opened_held h None f j = false_is (ap is_some f ∙ begins_reached h j)
opened_held h (Some r) f j = (came h 0 begun r begun_alive (sym f)).count

-- nothing is held of bytes that begin no text
pub nothing_held : (h : List ℕ) (o : Option Reached) → StandsFor h o → (BeginsText h → ⊥) → open_count o ≡ 0
nothing_held h None f none = refl
nothing_held h (Some r) f none = absurd (none (reached_begins h r (sym f)))
