-- The modes and open containers of a scan follow the reader that builds a document.
use Rattle.std.proofs.Common.{◌≡◌, ℕ, suc, List, [], ◌∷◌, ◌++◌, length, Bool, true, false, cond, ◌&&◌, eqb, ltb, Option, Some, None, is_some, option_map, option_and_then, refl, sym, ap, ◌∙◌, subst}
use Rattle.sj_base.specs.ByteClasses.{is_plain, is_blank}
use Rattle.sj_decimal.specs.Number.{is_number_byte, begins_number}
use Rattle.sj_json.specs.Tree.{Number, Tree, string, number, array, object}
use Rattle.sj_json.specs.Building.{Part, top, elements, pairs, State, put, put_key, with_value}
use Rattle.sj_json.specs.Machine as m
use Rattle.sj_scan.specs.declared.numeral.Numeral.{Numeral}
use Rattle.sj_scan.specs.declared.numeral.Numeral.TheVariants.{Nothing}
use Rattle.sj_scan.specs.declared.escape.Escape.{Escape}
use Rattle.sj_scan.specs.declared.escape.Escaped.{Escaped}
use Rattle.sj_scan.specs.declared.escape.Escaped.TheVariants.{GoesOn}
use Rattle.sj_scan.specs.declared.mode.Container.{Container}
use Rattle.sj_scan.specs.declared.mode.Container.TheVariants.{Array, Object}
use Rattle.sj_scan.specs.Numerals.{numeral_step, may_end, numeral_then, numeral_after, ends}
use Rattle.sj_scan.specs.Escapes.{escape_step}
use Rattle.sj_scan.specs.Modes as s
use Rattle.sj_scan.proofs.Numerals.{numeral_append, number_if, no_number_else}
use Rattle.sj_scan.proofs.Units.{shadow_escape, Made, FollowsIn, escape_follows}

-- ---- the place of a scan, by the state of the reader

-- the open containers, the innermost first
abbrev pub open_in : Part → List Part → List Container
open_in (top o) qs = []
open_in (elements ts) [] = Array ∷ []
open_in (elements ts) (q ∷ qs) = Array ∷ open_in q qs
open_in (pairs ms k) [] = Object ∷ []
open_in (pairs ms k) (q ∷ qs) = Object ∷ open_in q qs

-- the outermost part is the root's place, and no other is
abbrev pub Nested : Part → List Part → Type 0
Nested (top o) [] = Unit {0}
Nested (top o) (q ∷ qs) = ⊥
Nested (elements ts) [] = ⊥
Nested (elements ts) (q ∷ qs) = Nested q qs
Nested (pairs ms k) [] = ⊥
Nested (pairs ms k) (q ∷ qs) = Nested q qs

abbrev IsElements : Part → Type 0
IsElements (top o) = ⊥
IsElements (elements ts) = Unit {0}
IsElements (pairs ms k) = ⊥

abbrev IsPairs : Part → Type 0
IsPairs (top o) = ⊥
IsPairs (elements ts) = ⊥
IsPairs (pairs ms k) = Unit {0}

-- a value may have come
abbrev Arrived : Part → Type 0
Arrived (top None) = ⊥
Arrived (top (Some t)) = Unit {0}
Arrived (elements ts) = Unit {0}
Arrived (pairs ms k) = Unit {0}

abbrev pub Fits : m.Mode → Part → Type 0
Fits m.value p = Unit {0}
Fits m.value_or_close p = IsElements p
Fits m.key p = Unit {0}
Fits m.key_or_close p = IsPairs p
Fits m.colon p = Unit {0}
Fits m.after_value p = Arrived p
Fits (m.letters r t) p = Unit {0}
Fits (m.quoted k x) p = Unit {0}
Fits (m.escaped k x e) p = Made e
Fits (m.digits a) p = Unit {0}

abbrev pub Fitting : m.Mode → State → Type 0
Fitting o t = Fits o t.0 × Nested t.0 t.1

abbrev numeral_of : List ℕ → Option Numeral
numeral_of a = numeral_after (Some Nothing) a

abbrev pub shadow_mode : m.Mode → Option s.Mode
shadow_mode m.value = Some s.value
shadow_mode m.value_or_close = Some s.value_or_close
shadow_mode m.key = Some s.key
shadow_mode m.key_or_close = Some s.key_or_close
shadow_mode m.colon = Some s.colon
shadow_mode m.after_value = Some s.after_value
shadow_mode (m.letters r t) = Some (s.word r)
shadow_mode (m.quoted k x) = Some (s.quoted k)
shadow_mode (m.escaped k x e) = option_map (s.escaped k) (shadow_escape e)
shadow_mode (m.digits a) = option_map s.number (numeral_of a)

abbrev at_open : List Container → s.Mode → s.Place
at_open cs o = (o, cs)

abbrev pub shadow : m.Mode → State → Option s.Place
shadow o t = option_map (at_open (open_in t.0 t.1)) (shadow_mode o)

abbrev pub Follows : m.Advance → s.Advance → Type 0
Follows None o = o ≡ None
Follows (Some p) o = Fitting p.0 p.1 × (shadow p.0 p.1 ≡ o)

-- ---- the parts

open_in-put : (t : Tree) (p : Part) (qs : List Part) → open_in (put t p) qs ≡ open_in p qs
open_in-put t (top o) qs = refl
open_in-put t (elements ts) [] = refl
open_in-put t (elements ts) (q ∷ qs) = refl
open_in-put t (pairs ms k) [] = refl
open_in-put t (pairs ms k) (q ∷ qs) = refl

open_in-key : (k : List ℕ) (p : Part) (qs : List Part) → open_in (put_key k p) qs ≡ open_in p qs
open_in-key k (top o) qs = refl
open_in-key k (elements ts) qs = refl
open_in-key k (pairs ms l) [] = refl
open_in-key k (pairs ms l) (q ∷ qs) = refl

nested_put : (t : Tree) (p : Part) (qs : List Part) → Nested p qs → Nested (put t p) qs
nested_put t (top o) [] h = tt
nested_put t (top o) (q ∷ qs) h = h
nested_put t (elements ts) [] h = h
nested_put t (elements ts) (q ∷ qs) h = h
nested_put t (pairs ms k) [] h = h
nested_put t (pairs ms k) (q ∷ qs) h = h

nested_key : (k : List ℕ) (p : Part) (qs : List Part) → Nested p qs → Nested (put_key k p) qs
nested_key k (top o) qs h = h
nested_key k (elements ts) qs h = h
nested_key k (pairs ms l) [] h = h
nested_key k (pairs ms l) (q ∷ qs) h = h

arrived_put : (t : Tree) (p : Part) → Arrived (put t p)
arrived_put t (top o) = tt
arrived_put t (elements ts) = tt
arrived_put t (pairs ms k) = tt

length-open_in : (p : Part) (qs : List Part) → Nested p qs → length (open_in p qs) ≡ length qs
length-open_in (top o) [] h = refl
length-open_in (top o) (q ∷ qs) h = absurd h
length-open_in (elements ts) [] h = absurd h
length-open_in (elements ts) (q ∷ qs) h = ap suc (length-open_in q qs h)
length-open_in (pairs ms k) [] h = absurd h
length-open_in (pairs ms k) (q ∷ qs) h = ap suc (length-open_in q qs h)

-- ---- one byte

split : (x : Bool) (t u : m.Advance) (p q : s.Advance) → (x ≡ true → Follows t p) → (x ≡ false → Follows u q) → Follows (cond x t u) (cond x p q)
split true t u p q f g = f refl
split false t u p q f g = g refl

to_place : (t : m.Advance) (p q : s.Advance) → p ≡ q → Follows t p → Follows t q
to_place t p q e h = subst (Follows t) e h

-- a value has come
value_came : (v : Tree) (p : Part) (qs : List Part) → Nested p qs → Follows (Some (m.after_value, (put v p, qs))) (Some (s.after_value, open_in p qs))
value_came v p qs h = ((arrived_put v p, nested_put v p qs h), ap (λ (cs : List Container). Some (s.after_value, cs)) (open_in-put v p qs))

open_by : (n k : ℕ) (t : m.Advance) (p : s.Advance) → n ≡ k → (limit : ℕ) → Follows t p → Follows (cond (ltb n limit) t None) (cond (ltb k limit) p None)
open_by n k t p e limit h =
    to_place _ (cond (ltb n limit) p None) _ (ap (λ (x : ℕ). cond (ltb x limit) p None) e) (split (ltb n limit) t None p None (λ _. h) (λ _. refl))

module _ (limit : ℕ) where
  open_array : (p : Part) (qs : List Part) → Nested p qs → Follows (m.open_turn limit false (p, qs)) (s.open_turn limit Array (open_in p qs))
  open_array p qs h = open_by (length qs) (length (open_in p qs)) _ _ (sym (length-open_in p qs h)) limit ((tt, h), refl)

  open_object : (p : Part) (qs : List Part) → Nested p qs → Follows (m.open_turn limit true (p, qs)) (s.open_turn limit Object (open_in p qs))
  open_object p qs h = open_by (length qs) (length (open_in p qs)) _ _ (sym (length-open_in p qs h)) limit ((tt, h), refl)

  map_number : (cs : List Container) (o : Option Numeral) → option_map (at_open cs) (option_map s.number o) ≡ s.number_turn cs o
  map_number cs None = refl
  map_number cs (Some q) = refl

  start_follows : (p : Part) (qs : List Part) (b : ℕ) → Nested p qs → Follows (m.start limit (p, qs) b) (s.start limit (open_in p qs) b)
  start_follows p qs b h =
      split (begins_number b) _ _ _ _ (λ _. ((tt, h), map_number (open_in p qs) (numeral_step Nothing b)))
      (λ _. split (eqb b 34) _ _ _ _ (λ _. ((tt, h), refl))
      (λ _. split (eqb b 91) _ _ _ _ (λ _. open_array p qs h)
      (λ _. split (eqb b 123) _ _ _ _ (λ _. open_object p qs h)
      (λ _. split (eqb b 110) _ _ _ _ (λ _. ((tt, h), refl))
      (λ _. split (eqb b 116) _ _ _ _ (λ _. ((tt, h), refl))
      (λ _. split (eqb b 102) _ _ _ _ (λ _. ((tt, h), refl)) (λ _. refl)))))))

  close_array : (p : Part) (qs : List Part) → IsElements p → Nested p qs → Follows (m.close_turn (p, qs)) (s.close_turn (open_in p qs))
  close_array (top o) qs i h = absurd i
  close_array (pairs ms k) qs i h = absurd i
  close_array (elements ts) [] i h = absurd h
  close_array (elements ts) (q ∷ qs) i h = value_came (array ts) q qs h

  close_object : (p : Part) (qs : List Part) → IsPairs p → Nested p qs → Follows (m.close_turn (p, qs)) (s.close_turn (open_in p qs))
  close_object (top o) qs i h = absurd i
  close_object (elements ts) qs i h = absurd i
  close_object (pairs ms k) [] i h = absurd h
  close_object (pairs ms k) (q ∷ qs) i h = value_came (object ms) q qs h

  separate_follows : (p : Part) (qs : List Part) (b : ℕ) → Nested p qs → Follows (m.separate (p, qs) b) (s.separate (open_in p qs) b)
  separate_follows (top o) qs b h = refl
  separate_follows (elements ts) [] b h = absurd h
  separate_follows (elements ts) (q ∷ qs) b h =
      split (eqb b 44) _ _ _ _ (λ _. ((tt, h), refl)) (λ _. split (eqb b 93) _ _ _ _ (λ _. value_came (array ts) q qs h) (λ _. refl))
  separate_follows (pairs ms k) [] b h = absurd h
  separate_follows (pairs ms k) (q ∷ qs) b h =
      split (eqb b 44) _ _ _ _ (λ _. ((tt, h), refl)) (λ _. split (eqb b 125) _ _ _ _ (λ _. value_came (object ms) q qs h) (λ _. refl))

  after_follows : (p : Part) (qs : List Part) (b : ℕ) → Arrived p → Nested p qs → Follows (m.unless_blank b m.after_value (p, qs) (m.separate (p, qs) b)) (s.after_value_turn (open_in p qs) b)
  after_follows p qs b a h = split (is_blank b) _ _ _ _ (λ _. ((a, h), refl)) (λ _. separate_follows p qs b h)

  -- a number

  abbrev on_number : List Container → ℕ → Option Numeral → s.Advance
  on_number cs b o = option_and_then (λ (q : s.Place). s.turn limit q.0 q.1 b) (option_map (at_open cs) (option_map s.number o))

  ended_by : (x : Bool) (q : Numeral) (a : List ℕ) (p : Part) (qs : List Part) (b : ℕ) → may_end q ≡ x → numeral_of a ≡ Some q → Nested p qs
      → Follows (option_and_then (λ (t : State). m.unless_blank b m.after_value t (m.separate t b)) (m.end_number a (p, qs))) (cond x (s.after_value_turn (open_in p qs) b) None)
  ended_by true q a p qs b e f h =
      let n = number_if a (ap ends f ∙ e) in
      let v : Tree = number n.0 in
      subst (λ (o : Option Number). Follows (option_and_then (λ (t : State). m.unless_blank b m.after_value t (m.separate t b)) (option_map (λ (w : Number). with_value (number w) (p, qs)) o)) (s.after_value_turn (open_in p qs) b))
      (sym n.1)
      (to_place _ (s.after_value_turn (open_in (put v p) qs) b) _ (ap (λ (cs : List Container). s.after_value_turn cs b) (open_in-put v p qs)) (after_follows (put v p) qs b (arrived_put v p) (nested_put v p qs h)))
  ended_by false q a p qs b e f h =
      subst (λ (o : Option Number). Follows (option_and_then (λ (t : State). m.unless_blank b m.after_value t (m.separate t b)) (option_map (λ (w : Number). with_value (number w) (p, qs)) o)) None)
      (sym (no_number_else a (ap ends f ∙ e))) refl

  more_digits : (a : List ℕ) (b : ℕ) (o : Option Numeral) → numeral_of a ≡ o → numeral_of (a ++ b ∷ []) ≡ numeral_then o b
  more_digits a b o e = numeral_append (Some Nothing) a (b ∷ []) ∙ ap (λ (r : Option Numeral). numeral_then r b) e

  digits_follow : (a : List ℕ) (p : Part) (qs : List Part) (b : ℕ) (o : Option Numeral) → numeral_of a ≡ o → Nested p qs → Follows (m.turn limit (m.digits a) (p, qs) b) (on_number (open_in p qs) b o)
  digits_follow a p qs b None e h =
      dead (is_number_byte b)
      ((tt, h), ap (λ (r : Option Numeral). option_map (at_open (open_in p qs)) (option_map s.number r)) (more_digits a b None e))
    where
      dead : (x : Bool) → Follows (Some (m.digits (a ++ b ∷ []), (p, qs))) None
          → Follows (cond x (Some (m.digits (a ++ b ∷ []), (p, qs))) (option_and_then (λ (t : State). m.unless_blank b m.after_value t (m.separate t b)) (m.end_number a (p, qs)))) None
      dead true k = k
      dead false k =
          subst (λ (r : Option Number). Follows (option_and_then (λ (t : State). m.unless_blank b m.after_value t (m.separate t b)) (option_map (λ (w : Number). with_value (number w) (p, qs)) r)) None)
          (sym (no_number_else a (ap ends e))) refl
  digits_follow a p qs b (Some q) e h =
      split (is_number_byte b) _ _ _ _
      (λ _. ((tt, h), ap (λ (r : Option Numeral). option_map (at_open (open_in p qs)) (option_map s.number r)) (more_digits a b (Some q) e) ∙ map_number (open_in p qs) (numeral_step q b)))
      (λ _. ended_by (may_end q) q a p qs b refl e h)

  -- an escape

  abbrev led : Bool → List Container → Escaped → s.Place
  led k cs r = (s.after_escape k r, cs)

  on_escape : (k : Bool) (cs : List Container) (b : ℕ) (o : Option Escape)
      → option_map (led k cs) (option_and_then (λ (q : Escape). escape_step q b) o) ≡ option_and_then (λ (q : s.Place). s.turn limit q.0 q.1 b) (option_map (at_open cs) (option_map (s.escaped k) o))
  on_escape k cs b None = refl
  on_escape k cs b (Some q) = refl

  waits : (k : Bool) (cs : List Container) (o : Option Escape) → option_map (at_open cs) (option_map (s.escaped k) o) ≡ option_map (led k cs) (option_map GoesOn o)
  waits k cs None = refl
  waits k cs (Some q) = refl

  escaped_follows : (k : Bool) (x : List ℕ) (p : Part) (qs : List Part) (r : Option m.EscapeStep) (o : Option Escaped) → Nested p qs → FollowsIn r o
      → Follows (option_map (m.after_step k x (p, qs)) r) (option_map (led k (open_in p qs)) o)
  escaped_follows k x p qs None o h e = ap (option_map (led k (open_in p qs))) e
  escaped_follows k x p qs (Some (m.wait n)) o h e = ((e.0, h), waits k (open_in p qs) (shadow_escape n) ∙ ap (option_map (led k (open_in p qs))) e.1)
  escaped_follows k x p qs (Some (m.char c)) o h e = ((tt, h), ap (option_map (led k (open_in p qs))) (sym e))

  quote_follows : (k : Bool) (x : List ℕ) (p : Part) (qs : List Part) → Nested p qs → Follows (Some (m.end_quote k x (p, qs))) (Some (s.end_quote k, open_in p qs))
  quote_follows false x p qs h = value_came (string x) p qs h
  quote_follows true x p qs h = ((tt, nested_key x p qs h), ap (λ (cs : List Container). Some (s.colon, cs)) (open_in-key x p qs))

  quote_begins : (p : Part) (qs : List Part) (b : ℕ) → Nested p qs → Follows (cond (eqb b 34) (Some (m.quoted true [], (p, qs))) None) (s.quote_turn (open_in p qs) b)
  quote_begins p qs b h = split (eqb b 34) _ _ _ _ (λ _. ((tt, h), refl)) (λ _. refl)

  word_follows : (r : List ℕ) (t : Tree) (p : Part) (qs : List Part) (b : ℕ) → Nested p qs → Follows (m.turn limit (m.letters r t) (p, qs) b) (s.word_turn r (open_in p qs) b)
  word_follows [] t p qs b h = refl
  word_follows (x ∷ []) t p qs b h = split (eqb b x) _ _ _ _ (λ _. value_came t p qs h) (λ _. refl)
  word_follows (x ∷ y ∷ r) t p qs b h = split (eqb b x) _ _ _ _ (λ _. ((tt, h), refl)) (λ _. refl)

  pub turn_follows : (o : m.Mode) (p : Part) (qs : List Part) (b : ℕ) → Fits o p → Nested p qs
      → Follows (m.turn limit o (p, qs) b) (option_and_then (λ (q : s.Place). s.turn limit q.0 q.1 b) (shadow o (p, qs)))
  turn_follows m.value p qs b f h = split (is_blank b) _ _ _ _ (λ _. ((tt, h), refl)) (λ _. start_follows p qs b h)
  turn_follows m.value_or_close p qs b f h =
      split (is_blank b) _ _ _ _ (λ _. ((f, h), refl)) (λ _. split (eqb b 93) _ _ _ _ (λ _. close_array p qs f h) (λ _. start_follows p qs b h))
  turn_follows m.key p qs b f h = split (is_blank b) _ _ _ _ (λ _. ((tt, h), refl)) (λ _. quote_begins p qs b h)
  turn_follows m.key_or_close p qs b f h =
      split (is_blank b) _ _ _ _ (λ _. ((f, h), refl)) (λ _. split (eqb b 125) _ _ _ _ (λ _. close_object p qs f h) (λ _. quote_begins p qs b h))
  turn_follows m.colon p qs b f h = split (is_blank b) _ _ _ _ (λ _. ((tt, h), refl)) (λ _. split (eqb b 58) _ _ _ _ (λ _. ((tt, h), refl)) (λ _. refl))
  turn_follows m.after_value p qs b f h = after_follows p qs b f h
  turn_follows (m.digits a) p qs b f h = digits_follow a p qs b (numeral_of a) refl h
  turn_follows (m.letters r t) p qs b f h = word_follows r t p qs b h
  turn_follows (m.quoted k x) p qs b f h =
      split (eqb b 34) _ _ _ _ (λ _. quote_follows k x p qs h)
      (λ _. split (is_plain b) _ _ _ _ (λ _. ((tt, h), refl)) (λ _. split (eqb b 92) _ _ _ _ (λ _. ((tt, h), refl)) (λ _. refl)))
  turn_follows (m.escaped k x e) p qs b f h =
      to_place _ _ _ (on_escape k (open_in p qs) b (shadow_escape e)) (escaped_follows k x p qs (m.escape_step e b) (option_and_then (λ (q : Escape). escape_step q b) (shadow_escape e)) h (escape_follows e b f))

  -- ---- whole texts

  -- whether a text may end behind these bytes
  abbrev pub accepts : Option s.Place → List ℕ → Bool
  accepts None bs = false
  accepts (Some q) [] = s.may_end_in q.0 && s.none_open q.1
  accepts (Some q) (b ∷ bs) = accepts (s.turn limit q.0 q.1 b) bs

  none_accepts : (bs : List ℕ) → accepts None bs ≡ false
  none_accepts [] = refl
  none_accepts (b ∷ bs) = refl

  root_ends : (p : Part) (qs : List Part) → Arrived p → Nested p qs → is_some (m.root (p, qs)) ≡ s.none_open (open_in p qs)
  root_ends (top None) qs a h = absurd a
  root_ends (top (Some t)) [] a h = refl
  root_ends (top (Some t)) (q ∷ qs) a h = absurd h
  root_ends (elements ts) [] a h = absurd h
  root_ends (elements ts) (q ∷ qs) a h = refl
  root_ends (pairs ms k) [] a h = absurd h
  root_ends (pairs ms k) (q ∷ qs) a h = refl

  number_ends_by : (x : Bool) (q : Numeral) (a : List ℕ) (p : Part) (qs : List Part) → may_end q ≡ x → numeral_of a ≡ Some q → Nested p qs
      → is_some (option_and_then m.root (m.end_number a (p, qs))) ≡ (x && s.none_open (open_in p qs))
  number_ends_by true q a p qs e f h =
      let n = number_if a (ap ends f ∙ e) in
      ap (λ (o : Option Number). is_some (option_and_then m.root (option_map (λ (w : Number). with_value (number w) (p, qs)) o))) n.1
      ∙ root_ends (put (number n.0) p) qs (arrived_put (number n.0) p) (nested_put (number n.0) p qs h)
      ∙ ap s.none_open (open_in-put (number n.0) p qs)
  number_ends_by false q a p qs e f h =
      ap (λ (o : Option Number). is_some (option_and_then m.root (option_map (λ (w : Number). with_value (number w) (p, qs)) o))) (no_number_else a (ap ends f ∙ e))

  number_ends : (a : List ℕ) (p : Part) (qs : List Part) (o : Option Numeral) → numeral_of a ≡ o → Nested p qs
      → is_some (option_and_then m.root (m.end_number a (p, qs))) ≡ accepts (option_map (at_open (open_in p qs)) (option_map s.number o)) []
  number_ends a p qs None e h =
      ap (λ (o : Option Number). is_some (option_and_then m.root (option_map (λ (w : Number). with_value (number w) (p, qs)) o))) (no_number_else a (ap ends e))
  number_ends a p qs (Some q) e h = number_ends_by (may_end q) q a p qs refl e h

  escape_ends : (k : Bool) (cs : List Container) (o : Option Escape) → false ≡ accepts (option_map (at_open cs) (option_map (s.escaped k) o)) []
  escape_ends k cs None = refl
  escape_ends k cs (Some q) = refl

  ending_accepts : (o : m.Mode) (p : Part) (qs : List Part) → Fits o p → Nested p qs → is_some (m.ending o (p, qs)) ≡ accepts (shadow o (p, qs)) []
  ending_accepts m.value p qs f h = refl
  ending_accepts m.value_or_close p qs f h = refl
  ending_accepts m.key p qs f h = refl
  ending_accepts m.key_or_close p qs f h = refl
  ending_accepts m.colon p qs f h = refl
  ending_accepts m.after_value p qs f h = root_ends p qs f h
  ending_accepts (m.letters r t) p qs f h = refl
  ending_accepts (m.quoted k x) p qs f h = refl
  ending_accepts (m.escaped k x e) p qs f h = escape_ends k (open_in p qs) (shadow_escape e)
  ending_accepts (m.digits a) p qs f h = number_ends a p qs (numeral_of a) refl h

  one_byte : (q : Option s.Place) (b : ℕ) (bs : List ℕ) → accepts q (b ∷ bs) ≡ accepts (option_and_then (λ (r : s.Place). s.turn limit r.0 r.1 b) q) bs
  one_byte None b bs = sym (none_accepts bs)
  one_byte (Some q) b bs = refl

  goes_on : (bs : List ℕ) → ((o : m.Mode) (t : State) → Fitting o t → is_some (m.run limit o t bs) ≡ accepts (shadow o t) bs)
      → (r : m.Advance) (o : s.Advance) → Follows r o → is_some (option_and_then (λ (p : m.Mode × State). m.run limit p.0 p.1 bs) r) ≡ accepts o bs
  goes_on bs ih None o e = sym (ap (λ (q : s.Advance). accepts q bs) e ∙ none_accepts bs)
  goes_on bs ih (Some p) o e = ih p.0 p.1 e.0 ∙ ap (λ (q : s.Advance). accepts q bs) e.1

  pub run_accepts : (bs : List ℕ) (o : m.Mode) (t : State) → Fitting o t → is_some (m.run limit o t bs) ≡ accepts (shadow o t) bs
  unfolding m.run
  run_accepts [] o t f = ending_accepts o t.0 t.1 f.0 f.1
  run_accepts (b ∷ bs) o t f =
      goes_on bs (λ n u g. run_accepts bs n u g) (m.turn limit o t b) (option_and_then (λ (q : s.Place). s.turn limit q.0 q.1 b) (shadow o t)) (turn_follows o t.0 t.1 b f.0 f.1)
      ∙ sym (one_byte (shadow o t) b bs)
