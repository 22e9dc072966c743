-- Steps of the reader of bytes, as the code takes them.
use Rattle.std.proofs.Common.{◌≡◌, ◌≢◌, ℕ, ◌+◌, ◌-◌, ◌<◌, ◌≤◌, List, [], ◌∷◌, ◌++◌, length, take, drop, get_or, Bool, true, false, cond, ◌==◌, nat_lt, Option, Some, None, Result, Ok, Err, option_and_then, MatchResult, IfOk, OnOk, OnErr, codes, refl, sym, ap, ◌∙◌, subst, arith, ◌⊎◌, inl, inr}
use Rattle.std.proofs.lemmas.List.{get_or-drop, get_or_append_left, drop_more, drop-drop, take-append-drop, length-drop, length-append}
use Rattle.std.proofs.lemmas.Bool.Decides.{eqb_tells}
use borrow.Author.Tests.{lt-ltb, le-ltb, eqb-true, eqb-false}
use Rattle.std.specs.Str.{IsUtf8}
use Rattle.sj_decimal.specs.Number.{begins_number}
use Rattle.sj_decimal.specs.Shorts.{between}
use Rattle.sj_json.specs.Tree.{Tree, null, truth, string, below}
use Rattle.sj_json.specs.Building.{Part, top, elements, pairs, State, TakesValue, TakesKey, TakesClose, put, put_key, with_value, with_key, with_open, with_close}
use Rattle.sj_base.specs.ByteClasses.{is_blank}
use Rattle.sj_json.specs.Machine.{Mode, value, value_or_close, key, key_or_close, colon, after_value, letters, quoted, open_turn, close_turn, start, separate, end_quote, turn, run}
use Rattle.sj_json.proofs.Complete.{run_step, run_plain}
use Rattle.sj_json.proofs.Buildings.{total-put, total-open, total-key}
use Rattle.sj_doc.specs.Builders.{feeds_behind, EndsInFeeds, Building, node_total}
use Rattle.sj_doc.specs.Kinds.{want_of}
use Rattle.sj_doc.specs.declared.node.Want.TheVariants as wants
use Rattle.sj_read.specs.declared.reader.Mode as coded
use Rattle.sj_read.specs.declared.reader.Mode.TheVariants as modes
use Rattle.sj_read.specs.declared.reader.Place as coded_place
use Rattle.sj_read.specs.declared.reader.Place.TheVariants as places
use Rattle.sj_read.specs.declared.reader.ReadRefusal.{ReadRefusal}
use Rattle.sj_read.specs.declared.reader.ReadRefusal.TheVariants.{NotJson, Memory}
use Rattle.sj_read.specs.Scans.{EndsPlain}
use Rattle.sj_read.specs.Strings.{FindsString, NoString}
use Rattle.sj_read.specs.Turns.{mode_of, closes_at, HasValue, HasKey, HasTaken, FirstElement, Ready, StandsIn, StoodIn, Went, Turns}

pub cond_no : {A : Type 0} (b : Bool) (x y : A) → b ≡ false → cond b x y ≡ y
cond_no b x y e = ap (λ (c : Bool). cond c x y) e

pub ne_false : (a b : ℕ) → a ≢ b → (a == b) ≡ false
ne_false a b h = elim (eqb_tells a b) as (λ _. (a == b) ≡ false) [ inl p ↦ absurd (h p.1) | inr p ↦ p.0 ]

module _ (limit : ℕ) (m : Mode) (s : State) (text : List ℕ) (at c : ℕ) (h : at < length text) (e : get_or text at 0 ≡ c) where
  pub here : drop at text ≡ c ∷ drop (at + 1) text
  here = drop_more text at 0 h ∙ ap (λ (x : ℕ). x ∷ drop (at + 1) text) e

  pub goes : (p : Mode × State) → turn limit m s c ≡ Some p → run limit m s (drop at text) ≡ run limit p.0 p.1 (drop (at + 1) text)
  goes p t = ap (run limit m s) here ∙ run_step limit m s c (drop (at + 1) text) p t

  pub halts : turn limit m s c ≡ None → run limit m s (drop at text) ≡ None
  unfolding run
  halts t = ap (run limit m s) here ∙ ap (option_and_then (λ (q : Mode × State). run limit q.0 q.1 (drop (at + 1) text))) t

-- in a line, before the line feeds
module _ (limit : ℕ) (m : Mode) (s : State) (text : List ℕ) (at c : ℕ) (h : at + feeds_behind < length text) (e : get_or text at 0 ≡ c) where
  pub stops : turn limit m s c ≡ None → run limit m s (drop at text) ≡ None
  stops t = halts limit m s text at c (omega (arith, h)) e t

  pub one_byte : (n : coded.Mode) (t : State) → turn limit m s c ≡ Some (mode_of n, t) → Ready (mode_of n) t → node_total t ≤ at + 1 → Went limit m s text at n (at + 1) t
  one_byte n t is ready room = record { same = goes limit m s text at c (omega (arith, h)) e (mode_of n, t) is; later = omega arith; within = omega (arith, h); ready = ready; room = room }

-- ---- white space

pub blank_turn : (limit : ℕ) (n : coded.Mode) (s : State) (c : ℕ) → is_blank c ≡ true → turn limit (mode_of n) s c ≡ Some (mode_of n, s)
blank_turn limit modes.Value s c h = ap (λ (x : Bool). cond x (Some (value, s)) (start limit s c)) h
blank_turn limit modes.ValueOrClose s c h = ap (λ (x : Bool). cond x (Some (value_or_close, s)) (cond (c == 93) (close_turn s) (start limit s c))) h
blank_turn limit modes.Key s c h = ap (λ (x : Bool). cond x (Some (key, s)) (cond (c == 34) (Some (quoted true [], s)) None)) h
blank_turn limit modes.KeyOrClose s c h = ap (λ (x : Bool). cond x (Some (key_or_close, s)) (cond (c == 125) (close_turn s) (cond (c == 34) (Some (quoted true [], s)) None))) h
blank_turn limit modes.Colon s c h = ap (λ (x : Bool). cond x (Some (colon, s)) (cond (c == 58) (Some (value, s)) None)) h
blank_turn limit modes.AfterValue s c h = ap (λ (x : Bool). cond x (Some (after_value, s)) (separate s c)) h

-- ---- after a value

is_array : (p : Part) → want_of p ≡ wants.ValueOrClose → (f : Part → Type 0) → ((ts : Rattle.sj_json.specs.Tree.Items) → f (elements ts)) → f p
is_array (top None) e f g = cc
is_array (top (Some t)) e f g = cc
is_array (elements ts) e f g = g ts
is_array (pairs ms None) e f g = cc
is_array (pairs ms (Some k)) e f g = cc

is_map : (p : Part) → want_of p ≡ wants.KeyOrClose → (f : Part → Type 0) → ((ms : Rattle.sj_json.specs.Tree.Members) → f (pairs ms None)) → f p
is_map (top None) e f g = cc
is_map (top (Some t)) e f g = cc
is_map (elements ts) e f g = cc
is_map (pairs ms None) e f g = g ms
is_map (pairs ms (Some k)) e f g = cc

module _ (limit : ℕ) (p : Part) (qs : List Part) (c : ℕ) where
  pub comma_items : want_of p ≡ wants.ValueOrClose → c ≡ 44 → (turn limit after_value (p, qs) c ≡ Some (value, (p, qs))) × TakesValue p
  comma_items w e =
      is_array p w (λ q. (turn limit after_value (q, qs) c ≡ Some (value, (q, qs))) × TakesValue q)
      (λ ts. (subst (λ (x : ℕ). turn limit after_value (elements ts, qs) x ≡ Some (value, (elements ts, qs))) (sym e) refl, tt))

  pub close_items : want_of p ≡ wants.ValueOrClose → c ≡ 93 → turn limit after_value (p, qs) c ≡ close_turn (p, qs)
  close_items w e =
      is_array p w (λ q. turn limit after_value (q, qs) c ≡ close_turn (q, qs)) (λ ts. subst (λ (x : ℕ). turn limit after_value (elements ts, qs) x ≡ close_turn (elements ts, qs)) (sym e) refl)

  pub no_items : want_of p ≡ wants.ValueOrClose → is_blank c ≡ false → c ≢ 44 → c ≢ 93 → turn limit after_value (p, qs) c ≡ None
  no_items w b e f =
      is_array p w (λ q. turn limit after_value (q, qs) c ≡ None)
      (λ ts. cond_no (is_blank c) (Some (after_value, (elements ts, qs))) (separate (elements ts, qs) c) b
      ∙ cond_no (c == 44) (Some (value, (elements ts, qs))) (cond (c == 93) (close_turn (elements ts, qs)) None) (ne_false c 44 e)
      ∙ cond_no (c == 93) (close_turn (elements ts, qs)) None (ne_false c 93 f))

  pub comma_members : want_of p ≡ wants.KeyOrClose → c ≡ 44 → (turn limit after_value (p, qs) c ≡ Some (key, (p, qs))) × TakesKey p
  comma_members w e =
      is_map p w (λ q. (turn limit after_value (q, qs) c ≡ Some (key, (q, qs))) × TakesKey q)
      (λ ms. (subst (λ (x : ℕ). turn limit after_value (pairs ms None, qs) x ≡ Some (key, (pairs ms None, qs))) (sym e) refl, tt))

  pub close_members : want_of p ≡ wants.KeyOrClose → c ≡ 125 → turn limit after_value (p, qs) c ≡ close_turn (p, qs)
  close_members w e =
      is_map p w (λ q. turn limit after_value (q, qs) c ≡ close_turn (q, qs)) (λ ms. subst (λ (x : ℕ). turn limit after_value (pairs ms None, qs) x ≡ close_turn (pairs ms None, qs)) (sym e) refl)

  pub no_members : want_of p ≡ wants.KeyOrClose → is_blank c ≡ false → c ≢ 44 → c ≢ 125 → turn limit after_value (p, qs) c ≡ None
  no_members w b e f =
      is_map p w (λ q. turn limit after_value (q, qs) c ≡ None)
      (λ ms. cond_no (is_blank c) (Some (after_value, (pairs ms None, qs))) (separate (pairs ms None, qs) c) b
      ∙ cond_no (c == 44) (Some (key, (pairs ms None, qs))) (cond (c == 125) (close_turn (pairs ms None, qs)) None) (ne_false c 44 e)
      ∙ cond_no (c == 125) (close_turn (pairs ms None, qs)) None (ne_false c 125 f))

pub no_more : (limit : ℕ) (p : Part) (qs : List Part) (c : ℕ) → HasValue p → want_of p ≢ wants.ValueOrClose → want_of p ≢ wants.KeyOrClose → is_blank c ≡ false → turn limit after_value (p, qs) c ≡ None
no_more limit (top o) qs c h e f b = cond_no (is_blank c) (Some (after_value, (top o, qs))) None b
no_more limit (elements ts) qs c h e f b = absurd (e refl)
no_more limit (pairs ms None) qs c h e f b = absurd (f refl)
no_more limit (pairs ms (Some k)) qs c h e f b = absurd h

-- what has been closed is a value
pub closed_value : (p : Part) (qs : List Part) → TakesClose p → HasValue (with_close (p, qs)).0
closed_value (top o) qs h = absurd h
closed_value (elements ts) [] h = tt
closed_value (elements ts) (top o ∷ qs) h = tt
closed_value (elements ts) (elements us ∷ qs) h = tt
closed_value (elements ts) (pairs ms k ∷ qs) h = tt
closed_value (pairs ms (Some k)) qs h = absurd h
closed_value (pairs ms None) [] h = tt
closed_value (pairs ms None) (top o ∷ qs) h = tt
closed_value (pairs ms None) (elements us ∷ qs) h = tt
closed_value (pairs ms None) (pairs us k ∷ qs) h = tt

pub put_value : (t : Tree) (p : Part) → TakesValue p → HasValue (put t p)
put_value t (top o) h = tt
put_value t (elements ts) h = tt
put_value t (pairs ms k) h = tt

pub put_key_ready : (k : List ℕ) (p : Part) → TakesKey p → HasKey (put_key k p)
put_key_ready k (top o) h = absurd h
put_key_ready k (elements ts) h = absurd h
put_key_ready k (pairs ms l) h = tt

pub key_takes_value : (p : Part) → HasKey p → TakesValue p
key_takes_value (top o) h = absurd h
key_takes_value (elements ts) h = absurd h
key_takes_value (pairs ms None) h = absurd h
key_takes_value (pairs ms (Some k)) h = tt

pub wants_member : (p : Part) → TakesKey p → want_of p ≡ wants.KeyOrClose
wants_member (top o) h = absurd h
wants_member (elements ts) h = absurd h
wants_member (pairs ms None) h = refl
wants_member (pairs ms (Some k)) h = absurd h

member_put : (t : Tree) (p : Part) → HasKey p → TakesKey (put t p)
member_put t (top o) h = absurd h
member_put t (elements ts) h = absurd h
member_put t (pairs ms None) h = absurd h
member_put t (pairs ms (Some k)) h = tt

pub stood_in : (k : coded_place.Place) (s new : State) → StandsIn k s → HasTaken s new → StoodIn k new
stood_in places.Anywhere s new h taken = tt
stood_in places.Member s new h taken = subst (λ (z : State). TakesKey z.0) (sym taken.1) (member_put taken.0 s.0 h)

pub first_closes : (p : Part) → FirstElement p → TakesClose p
first_closes (top o) h = absurd h
first_closes (elements ts) h = tt
first_closes (pairs ms k) h = absurd h

-- ---- words

pub no_word : (limit : ℕ) (x : ℕ) (r : List ℕ) (t : Tree) (s : State) (bs : List ℕ) → ((rest : List ℕ) → bs ≡ (x ∷ r) ++ rest → ⊥) → run limit (letters (x ∷ r) t) s bs ≡ None
unfolding run
no_word limit x r t s [] h = refl
no_word limit x [] t s (b ∷ bs) h =
    let other : b ≢ x = λ e. h bs (ap (λ (y : ℕ). y ∷ bs) e) in
    ap (option_and_then (λ (q : Mode × State). run limit q.0 q.1 bs)) (cond_no (b == x) (Some (after_value, with_value t s)) None (ne_false b x other))
no_word limit x (y ∷ r) t s (b ∷ bs) h =
    let K : Mode × State → Option Tree = λ q. run limit q.0 q.1 bs in
    elim (eqb_tells b x) as (λ _. option_and_then K (cond (b == x) (Some (letters (y ∷ r) t, s)) None) ≡ None) [
      | inl e ↦ ap (λ (z : Bool). option_and_then K (cond z (Some (letters (y ∷ r) t, s)) None)) e.0 ∙ no_word limit y r t s bs (λ rest f. h rest (ap (λ (z : ℕ). z ∷ bs) e.1 ∙ ap (λ (z : List ℕ). x ∷ z) f))
      | inr e ↦ ap (λ (z : Bool). option_and_then K (cond z (Some (letters (y ∷ r) t, s)) None)) e.0
    ]

-- ---- strings

pub cut : (text : List ℕ) (from at : ℕ) → from ≤ at → drop from text ≡ take (at - from) (drop from text) ++ drop at text
cut text from at h =
    let same : from + (at - from) ≡ at = omega arith in
    sym (take-append-drop (at - from) (drop from text)) ∙ ap (λ (z : List ℕ). take (at - from) (drop from text) ++ z) (drop-drop (at - from) from text ∙ ap (λ (i : ℕ). drop i text) same)

pub string_goes : (limit : ℕ) (k : Bool) (s : State) (text : List ℕ) (from end : ℕ) → EndsPlain text from end
    → run limit (quoted k []) s (drop from text) ≡ run limit (end_quote k (take (end - from) (drop from text)) s).0 (end_quote k (take (end - from) (drop from text)) s).1 (drop (end + 1) text)
string_goes limit k s text from end h =
    ap (run limit (quoted k []) s) (cut text from end h.later ∙ ap (λ (z : List ℕ). take (end - from) (drop from text) ++ z) (drop_more text end 0 h.within ∙ ap (λ (b : ℕ). b ∷ drop (end + 1) text) h.quote))
    ∙ run_plain limit k [] (take (end - from) (drop from text)) (drop (end + 1) text) s h.plain

-- a string without an escape
pub plain_string : (text : List ℕ) (from end : ℕ) → EndsPlain text from end → FindsString text from end (take (end - from) (drop from text))
plain_string text from end h = record { reads = λ limit k s. string_goes limit k s text from end h; later = h.later; within = h.within; quote = h.quote }

-- in the line that is lent
pub lent : (text line : List ℕ) (from end : ℕ) → text ≡ line → EndsPlain text from end × IsUtf8 (between text from end) → EndsPlain line from end × IsUtf8 (between line from end)
lent text line from end e h = subst (λ (x : List ℕ). EndsPlain x from end × IsUtf8 (between x from end)) e h

-- ---- calls of the builder

pub state_of_pair : {x y : Building} → x ≡ y → x.0 ≡ y.0
state_of_pair e = ap (λ (z : Building). z.0) e

pub line_of_pair : {x y : Building} → x ≡ y → x.1 ≡ y.1
line_of_pair e = ap (λ (z : Building). z.1) e

pub after_call : {A E : Type 0} (limit : ℕ) (d : Result A E) (r : Result ℕ ReadRefusal) (n : coded.Mode) (to : ℕ) (m : Mode) (s : State) (text : List ℕ) (at : ℕ) (new : Building) (t : State) (line : List ℕ)
    → MatchResult d (λ _. r ≡ Ok to) (λ _. r ≡ Err Memory) → OnOk d (new ≡ (t, line)) → Went limit m s text at n to t → Turns limit n r m s text at new.0
after_call limit (Ok x) r n to m s text at new t line h e w = subst (λ z. Turns limit n z m s text at new.0) (sym h) (subst (Went limit m s text at n to) (sym (state_of_pair e)) w)
after_call limit (Err x) r n to m s text at new t line h e w = subst (λ z. Turns limit n z m s text at new.0) (sym h) tt

-- the value was put in
pub taken_call : {A E : Type 0} (d : Result A E) (r : Result ℕ ReadRefusal) (to : ℕ) (t : Tree) (s : State) (new : Building) (line : List ℕ)
    → MatchResult d (λ _. r ≡ Ok to) (λ _. r ≡ Err Memory) → OnOk d (new ≡ (with_value t s, line)) → IfOk r (λ _. HasTaken s new.0)
taken_call (Ok x) r to t s new line h e = subst (λ z. IfOk z (λ _. HasTaken s new.0)) (sym h) (t, state_of_pair e)
taken_call (Err x) r to t s new line h e = subst (λ z. IfOk z (λ _. HasTaken s new.0)) (sym h) tt

-- the line stays
pub line_after : {A E : Type 0} (d : Result A E) (new old : Building) (t : State) → OnOk d (new ≡ (t, old.1)) → OnErr d (new ≡ old) → new.1 ≡ old.1
line_after (Ok x) new old t h e = line_of_pair h
line_after (Err x) new old t h e = line_of_pair e

-- two steps, one after the other
pub onward : (limit : ℕ) (m : Mode) (s : State) (text : List ℕ) (at : ℕ) (n : coded.Mode) (to : ℕ) (t : State) → Went limit m s text at n to t
    → (k : coded.Mode) (r : Result ℕ ReadRefusal) (new : State) → Turns limit k r (mode_of n) t text to new → Turns limit k r m s text at new
onward limit m s text at n to t w k (Ok end) new v = record { same = w.same ∙ v.same; later = omega (arith, w.later, v.later); within = v.within; ready = v.ready; room = v.room }
onward limit m s text at n to t w k (Err NotJson) new v = w.same ∙ v
onward limit m s text at n to t w k (Err Memory) new v = tt

-- behind a quotation mark
behind_quote : (text : List ℕ) (end : ℕ) → EndsInFeeds text → end < length text → get_or text end 0 ≡ 34 → end + 1 + feeds_behind ≤ length text
behind_quote text end feeds within quote = feeds end within (λ q. let same : 34 ≡ 10 = sym quote ∙ q in cc)

-- what a value or a key that begins at the place leads to
module _ (limit : ℕ) (s : State) (text : List ℕ) (at c : ℕ) (h : at + feeds_behind < length text) (e : get_or text at 0 ≡ c) (room : node_total s ≤ at) where
  pub string_value : EndsInFeeds text → TakesValue s.0 → c ≡ 34 → (end : ℕ) (x : List ℕ) → FindsString text (at + 1) end x → Went limit value s text at modes.AfterValue (end + 1) (with_value (string x) s)
  string_value feeds ready is end x found =
      let first : turn limit value s c ≡ Some (quoted false [], s) = subst (λ (z : ℕ). turn limit value s z ≡ Some (quoted false [], s)) (sym is) refl in
      record {
        same = goes limit value s text at c (omega (arith, h)) e (quoted false [], s) first ∙ found.reads limit false s;
        later = omega (arith, found.later);
        within = behind_quote text end feeds found.within found.quote;
        ready = put_value (string x) s.0 ready;
        room = omega (arith, total-put (string x) s.0 s.1 ready, found.later);
      }

  pub no_string_value : c ≡ 34 → NoString text (at + 1) → run limit value s (drop at text) ≡ None
  no_string_value is missing =
      let first : turn limit value s c ≡ Some (quoted false [], s) = subst (λ (z : ℕ). turn limit value s z ≡ Some (quoted false [], s)) (sym is) refl in
      goes limit value s text at c (omega (arith, h)) e (quoted false [], s) first ∙ missing limit false s

  pub key_value : EndsInFeeds text → TakesKey s.0 → c ≡ 34 → (end : ℕ) (x : List ℕ) → FindsString text (at + 1) end x → Went limit key s text at modes.Colon (end + 1) (with_key x s)
  key_value feeds ready is end x found =
      let first : turn limit key s c ≡ Some (quoted true [], s) = subst (λ (z : ℕ). turn limit key s z ≡ Some (quoted true [], s)) (sym is) refl in
      record {
        same = goes limit key s text at c (omega (arith, h)) e (quoted true [], s) first ∙ found.reads limit true s;
        later = omega (arith, found.later);
        within = behind_quote text end feeds found.within found.quote;
        ready = put_key_ready x s.0 ready;
        room = omega (arith, total-key x s.0 s.1, found.later);
      }

  pub no_key_value : c ≡ 34 → NoString text (at + 1) → run limit key s (drop at text) ≡ None
  no_key_value is missing =
      let first : turn limit key s c ≡ Some (quoted true [], s) = subst (λ (z : ℕ). turn limit key s z ≡ Some (quoted true [], s)) (sym is) refl in
      goes limit key s text at c (omega (arith, h)) e (quoted true [], s) first ∙ missing limit true s

  pub no_key : is_blank c ≡ false → c ≢ 34 → run limit key s (drop at text) ≡ None
  no_key b is = stops limit key s text at c h e (cond_no (is_blank c) (Some (key, s)) (cond (c == 34) (Some (quoted true [], s)) None) b ∙ cond_no (c == 34) (Some (quoted true [], s)) None (ne_false c 34 is))

  -- a container opens
  pub array_opens : TakesValue s.0 → c ≡ 91 → length s.1 < limit → Went limit value s text at modes.ValueOrClose (at + 1) (with_open false s)
  array_opens ready is less =
      one_byte limit value s text at c h e modes.ValueOrClose (with_open false s)
      (subst (λ (z : ℕ). turn limit value s z ≡ open_turn limit false s) (sym is) refl ∙ ap (λ (x : Bool). cond x (Some (value_or_close, with_open false s)) None) (lt-ltb (length s.1) limit less))
      tt (omega (arith, total-open false s.0 s.1))

  pub object_opens : TakesValue s.0 → c ≡ 123 → length s.1 < limit → Went limit value s text at modes.KeyOrClose (at + 1) (with_open true s)
  object_opens ready is less =
      one_byte limit value s text at c h e modes.KeyOrClose (with_open true s)
      (subst (λ (z : ℕ). turn limit value s z ≡ open_turn limit true s) (sym is) refl ∙ ap (λ (x : Bool). cond x (Some (key_or_close, with_open true s)) None) (lt-ltb (length s.1) limit less))
      tt (omega (arith, total-open true s.0 s.1))

  pub array_too_deep : c ≡ 91 → limit ≤ length s.1 → run limit value s (drop at text) ≡ None
  array_too_deep is deep =
      stops limit value s text at c h e (subst (λ (z : ℕ). turn limit value s z ≡ open_turn limit false s) (sym is) refl ∙ cond_no (nat_lt (length s.1) limit) (Some (value_or_close, with_open false s)) None (le-ltb (length s.1) limit deep))

  pub object_too_deep : c ≡ 123 → limit ≤ length s.1 → run limit value s (drop at text) ≡ None
  object_too_deep is deep =
      stops limit value s text at c h e (subst (λ (z : ℕ). turn limit value s z ≡ open_turn limit true s) (sym is) refl ∙ cond_no (nat_lt (length s.1) limit) (Some (key_or_close, with_open true s)) None (le-ltb (length s.1) limit deep))

  -- a word: its first byte is x, r is the rest of it
  module _ (x y : ℕ) (r : List ℕ) (t : Tree) (first : turn limit value s x ≡ Some (letters (y ∷ r) t, s)) (is : c ≡ x) where
    begun : turn limit value s c ≡ Some (letters (y ∷ r) t, s)
    begun = subst (λ (z : ℕ). turn limit value s z ≡ Some (letters (y ∷ r) t, s)) (sym is) first

    pub word_value : EndsInFeeds text → get_or (y ∷ r) (length r) 0 ≢ 10 → TakesValue s.0 → ((rest : List ℕ) → run limit (letters (y ∷ r) t) s ((y ∷ r) ++ rest) ≡ run limit after_value (with_value t s) rest) → below t ≡ 0
        → drop (at + 1) text ≡ (y ∷ r) ++ drop (length (y ∷ r)) (drop (at + 1) text) → Went limit value s text at modes.AfterValue (at + 1 + length (y ∷ r)) (with_value t s)
    word_value feeds last ready reads leaf found =
        let n = length (y ∷ r) in
        let long : n ≤ length (drop (at + 1) text) = omega (arith, ap length found, length-append (y ∷ r) (drop n (drop (at + 1) text))) in
        let final : get_or text (at + 1 + length r) 0 ≡ get_or (y ∷ r) (length r) 0 =
        sym (get_or-drop (at + 1) text (length r) 0) ∙ ap (λ (z : List ℕ). get_or z (length r) 0) found ∙ get_or_append_left (y ∷ r) (drop n (drop (at + 1) text)) 0 (length r) (omega arith) in
        record {
          same = goes limit value s text at c (omega (arith, h)) e (letters (y ∷ r) t, s) begun ∙ ap (run limit (letters (y ∷ r) t) s) found ∙ reads (drop n (drop (at + 1) text)) ∙ ap (run limit after_value (with_value t s)) (drop-drop n (at + 1) text);
          later = omega arith;
          within = omega (arith, feeds (at + 1 + length r) (omega (arith, long, length-drop (at + 1) text)) (λ q. last (sym final ∙ q)));
          ready = put_value t s.0 ready;
          room = omega (arith, total-put t s.0 s.1 ready);
        }

    pub no_word_value : ((rest : List ℕ) → drop (at + 1) text ≡ (y ∷ r) ++ rest → ⊥) → run limit value s (drop at text) ≡ None
    no_word_value missing = goes limit value s text at c (omega (arith, h)) e (letters (y ∷ r) t, s) begun ∙ no_word limit y r t s (drop (at + 1) text) missing

  pub no_value : is_blank c ≡ false → begins_number c ≡ false → c ≢ 34 → c ≢ 91 → c ≢ 123 → c ≢ 110 → c ≢ 116 → c ≢ 102 → run limit value s (drop at text) ≡ None
  no_value b d p q r x y z =
      stops limit value s text at c h e (cond_no (is_blank c) (Some (value, s)) (start limit s c) b ∙ cond_no (begins_number c) _ _ d ∙ cond_no (c == 34) _ _ (ne_false c 34 p) ∙ cond_no (c == 91) _ _ (ne_false c 91 q) ∙ cond_no (c == 123) _ _ (ne_false c 123 r)
      ∙ cond_no (c == 110) _ _ (ne_false c 110 x) ∙ cond_no (c == 116) _ _ (ne_false c 116 y) ∙ cond_no (c == 102) _ _ (ne_false c 102 z))

pub null_read : (limit : ℕ) (s : State) (rest : List ℕ) → run limit (letters (codes "ull") null) s (codes "ull" ++ rest) ≡ run limit after_value (with_value null s) rest
unfolding run
null_read limit s rest = refl

pub true_read : (limit : ℕ) (s : State) (rest : List ℕ) → run limit (letters (codes "rue") (truth true)) s (codes "rue" ++ rest) ≡ run limit after_value (with_value (truth true) s) rest
unfolding run
true_read limit s rest = refl

pub false_read : (limit : ℕ) (s : State) (rest : List ℕ) → run limit (letters (codes "alse") (truth false)) s (codes "alse" ++ rest) ≡ run limit after_value (with_value (truth false) s) rest
unfolding run
false_read limit s rest = refl

pub closed_went : (limit : ℕ) (m : Mode) (s : State) (text : List ℕ) (at c : ℕ) → at + feeds_behind < length text → get_or text at 0 ≡ c → node_total s ≤ at → turn limit m s c ≡ close_turn s → TakesClose s.0
    → (new : State) → new ≡ with_close s → node_total new ≡ node_total s → Went limit m s text at modes.AfterValue (at + 1) new
closed_went limit m s text at c h e room is takes new same total =
    subst (Went limit m s text at modes.AfterValue (at + 1)) (sym same)
    (one_byte limit m s text at c h e modes.AfterValue (with_close s) is (closed_value s.0 s.1 takes) (omega (arith, ap node_total same)))

pub items_close : (p : Part) → want_of p ≡ wants.ValueOrClose → TakesClose p
items_close p w = is_array p w TakesClose (λ ts. tt)

pub members_close : (p : Part) → want_of p ≡ wants.KeyOrClose → TakesClose p
members_close p w = is_map p w TakesClose (λ ms. tt)

-- ---- where a container may close at once

pub first_close : (limit : ℕ) (s : State) (c : ℕ) → c ≡ 93 → turn limit value_or_close s c ≡ close_turn s
first_close limit s c e = subst (λ (x : ℕ). turn limit value_or_close s x ≡ close_turn s) (sym e) refl

pub first_value_turn : (limit : ℕ) (s : State) (c : ℕ) → is_blank c ≡ false → c ≢ 93 → turn limit value_or_close s c ≡ turn limit value s c
first_value_turn limit s c b e =
    cond_no (is_blank c) (Some (value_or_close, s)) (cond (c == 93) (close_turn s) (start limit s c)) b ∙ cond_no (c == 93) (close_turn s) (start limit s c) (ne_false c 93 e)
    ∙ sym (cond_no (is_blank c) (Some (value, s)) (start limit s c) b)

pub first_close_key : (limit : ℕ) (s : State) (c : ℕ) → c ≡ 125 → turn limit key_or_close s c ≡ close_turn s
first_close_key limit s c e = subst (λ (x : ℕ). turn limit key_or_close s x ≡ close_turn s) (sym e) refl

pub first_key_turn : (limit : ℕ) (s : State) (c : ℕ) → is_blank c ≡ false → c ≢ 125 → turn limit key_or_close s c ≡ turn limit key s c
first_key_turn limit s c b e =
    let rest = cond (c == 34) (Some (quoted true [], s)) None in
    cond_no (is_blank c) (Some (key_or_close, s)) (cond (c == 125) (close_turn s) rest) b ∙ cond_no (c == 125) (close_turn s) rest (ne_false c 125 e) ∙ sym (cond_no (is_blank c) (Some (key, s)) rest b)

same_run : (limit : ℕ) (m n : Mode) (s : State) (text : List ℕ) (at c : ℕ) → at + feeds_behind < length text → get_or text at 0 ≡ c → turn limit m s c ≡ turn limit n s c → run limit m s (drop at text) ≡ run limit n s (drop at text)
unfolding run
same_run limit m n s text at c h e f =
    let cells = here limit m s text at c (omega (arith, h)) e in
    ap (run limit m s) cells ∙ ap (option_and_then (λ (q : Mode × State). run limit q.0 q.1 (drop (at + 1) text))) f ∙ sym (ap (run limit n s) cells)

pub moved : (limit : ℕ) (m n : Mode) (s : State) (text : List ℕ) (at c : ℕ) → at + feeds_behind < length text → get_or text at 0 ≡ c → turn limit m s c ≡ turn limit n s c
    → (k : coded.Mode) (r : Result ℕ ReadRefusal) (new : State) → Turns limit k r n s text at new → Turns limit k r m s text at new
moved limit m n s text at c h e f k (Ok x) new w = record { same = same_run limit m n s text at c h e f ∙ w.same; later = w.later; within = w.within; ready = w.ready; room = w.room }
moved limit m n s text at c h e f k (Err NotJson) new w = same_run limit m n s text at c h e f ∙ w
moved limit m n s text at c h e f k (Err Memory) new w = tt

-- where a quotation mark stands right behind the bracket that opens an object, a key comes as behind a comma
pub first_key_run : (limit : ℕ) (s : State) (text : List ℕ) (at : ℕ) → at + feeds_behind < length text → get_or text at 0 ≡ 34 → run limit key_or_close s (drop at text) ≡ run limit key s (drop at text)
first_key_run limit s text at h e = same_run limit key_or_close key s text at 34 h e refl

pub colon_turn : (limit : ℕ) (s : State) (c : ℕ) → c ≡ 58 → turn limit colon s c ≡ Some (value, s)
colon_turn limit s c e = subst (λ (x : ℕ). turn limit colon s x ≡ Some (value, s)) (sym e) refl

pub no_colon : (limit : ℕ) (s : State) (c : ℕ) → is_blank c ≡ false → c ≢ 58 → turn limit colon s c ≡ None
no_colon limit s c b e = cond_no (is_blank c) (Some (colon, s)) (cond (c == 58) (Some (value, s)) None) b ∙ cond_no (c == 58) (Some (value, s)) None (ne_false c 58 e)

pub key_closes : (p : Part) → TakesKey p → TakesClose p
key_closes (top o) h = absurd h
key_closes (elements ts) h = absurd h
key_closes (pairs ms None) h = tt
key_closes (pairs ms (Some k)) h = absurd h

-- ---- right behind the bracket that opens a container

pub closes_first : (limit : ℕ) (n : coded.Mode) (s : State) (c : ℕ) → closes_at n c ≡ true → Ready (mode_of n) s → (turn limit (mode_of n) s c ≡ close_turn s) × TakesClose s.0
closes_first limit modes.Value s c h ready = cc
closes_first limit modes.ValueOrClose s c h ready = (first_close limit s c (eqb-true c 93 h), first_closes s.0 ready)
closes_first limit modes.Key s c h ready = cc
closes_first limit modes.KeyOrClose s c h ready = (first_close_key limit s c (eqb-true c 125 h), key_closes s.0 ready)
closes_first limit modes.Colon s c h ready = cc
closes_first limit modes.AfterValue s c h ready = cc

pub opens_value : (limit : ℕ) (n : coded.Mode) (s : State) (c : ℕ) → (n ≡ modes.Value) ⊎ (n ≡ modes.ValueOrClose) → is_blank c ≡ false → closes_at n c ≡ false → turn limit (mode_of n) s c ≡ turn limit value s c
opens_value limit n s c (inl e) b h = ap (λ (m : coded.Mode). turn limit (mode_of m) s c) e
opens_value limit n s c (inr e) b h =
    ap (λ (m : coded.Mode). turn limit (mode_of m) s c) e ∙ first_value_turn limit s c b (eqb-false c 93 (sym (ap (λ (m : coded.Mode). closes_at m c) e) ∙ h))

pub opens_key : (limit : ℕ) (n : coded.Mode) (s : State) (c : ℕ) → (n ≡ modes.Key) ⊎ (n ≡ modes.KeyOrClose) → is_blank c ≡ false → closes_at n c ≡ false → turn limit (mode_of n) s c ≡ turn limit key s c
opens_key limit n s c (inl e) b h = ap (λ (m : coded.Mode). turn limit (mode_of m) s c) e
opens_key limit n s c (inr e) b h =
    ap (λ (m : coded.Mode). turn limit (mode_of m) s c) e ∙ first_key_turn limit s c b (eqb-false c 125 (sym (ap (λ (m : coded.Mode). closes_at m c) e) ∙ h))
