-- Escapes, as the code reads them.
use Rattle.std.proofs.Common.{◌≡◌, ℕ, ◌+◌, ◌-◌, ◌*◌, ◌<◌, ◌≤◌, T, List, [], ◌∷◌, ◌++◌, length, drop, get_or, Bool, true, false, cond, ◌==◌, Option, Some, None, IfSome, option_map, option_and_then, refl, sym, ap, ◌∙◌, subst, arith}
use Rattle.std.specs.Char.{encode_utf8, digit_value, is_digit}
use Rattle.std.specs.Char.Utf16.{is_high_surrogate, is_low_surrogate, surrogate_pair_char}
use Rattle.std.proofs.lemmas.List.{drop_all, length-drop}
use Rattle.std.proofs.lemmas.Bool.Decides.{nat_tests}
use Rattle.sj_base.specs.ByteClasses.{letter_char}
use Rattle.sj_json.specs.Building.{State}
use Rattle.sj_json.specs.Machine.{Mode, Escape, begun, unit, high, second, EscapeStep, wait, char, unit_done, unit_step, escape_step, after_step, escaped, quoted, run}
use Rattle.sj_read.specs.declared.escape.TheConstants.{LETTERS, DIGITS}
use Rattle.sj_read.specs.Strings.{or_zero, letter_or_none, digit_or_none, FindsFrom, FailsFrom, FindsEscape, NoEscape, after_unit, HasUnit, NoUnit}
use Rattle.sj_read.proofs.Lanes.{upto, upto_sound}
use Rattle.sj_read.proofs.Steps.{goes, halts, here, cond_no, ne_false}

-- ---- the tables

read_so : (table : List ℕ) (f : ℕ → ℕ) → T (upto (λ i. get_or table i 0 == f i) 256) → (b : ℕ) → b < 256 → get_or table b 0 ≡ f b
read_so table f all b l = Rattle.std.proofs.lemmas.Bool.eqb-true (get_or table b 0) (f b) (is_true _ (upto_sound (λ i. get_or table i 0 == f i) 256 all b l))
  where
    is_true : (x : Bool) → T x → x ≡ true
    is_true true h = refl
    is_true false h = absurd h

pub letter_read : (b : ℕ) → b < 256 → get_or LETTERS b 0 ≡ letter_or_none b
letter_read = read_so LETTERS letter_or_none tt

pub digit_read : (b : ℕ) → b < 256 → get_or DIGITS b 0 ≡ digit_or_none b
digit_read = read_so DIGITS digit_or_none tt

by_digit : (x : Bool) (v : ℕ) → (cond x v 16 ≤ 15 → x ≡ true) × (cond x v 16 ≤ 15 → cond x v 16 ≡ v)
by_digit true v = (λ _. refl, λ _. refl)
by_digit false v = (λ l. absurd (omega (arith, l)), λ l. absurd (omega (arith, l)))

is_a_digit : (b : ℕ) → digit_or_none b ≤ 15 → is_digit b 16 ≡ true
is_a_digit b l = (by_digit (is_digit b 16) (digit_value b)).0 l

digit_is : (b : ℕ) → digit_or_none b ≤ 15 → digit_or_none b ≡ digit_value b
digit_is b l = (by_digit (is_digit b 16) (digit_value b)).1 l

some_of : (o : Option ℕ) (c : ℕ) → or_zero o ≡ c → 0 < c → o ≡ Some c
some_of None c e l = absurd (omega (arith, e, l))
some_of (Some x) c e l = ap Some e

digit_ascii : (b : ℕ) → is_digit b 16 ≡ true → b < 128
digit_ascii b h = grind (arith, nat_tests)

ascii_if : {X : Type 0} (x : Bool) (t u : Option X) (b : ℕ) → (x ≡ true → IfSome t (λ _. b < 128)) → (x ≡ false → IfSome u (λ _. b < 128)) → IfSome (cond x t u) (λ _. b < 128)
ascii_if true t u b f g = f refl
ascii_if false t u b f g = g refl

always : {X : Type 0} (o : Option X) (b : ℕ) → b < 128 → IfSome o (λ _. b < 128)
always None b h = tt
always (Some x) b h = h

same_ascii : (b c : ℕ) → (b == c) ≡ true → c < 128 → b < 128
same_ascii b c e l = omega (arith, Rattle.std.proofs.lemmas.Bool.eqb-true b c e, l)

letter_ascii : (b : ℕ) → IfSome (letter_char b) (λ _. b < 128)
letter_ascii b =
    ascii_if (b == 34) _ _ b (λ e. same_ascii b 34 e (omega arith)) (λ _. ascii_if (b == 92) _ _ b (λ e. same_ascii b 92 e (omega arith)) (λ _. ascii_if (b == 47) _ _ b (λ e. same_ascii b 47 e (omega arith))
    (λ _. ascii_if (b == 98) _ _ b (λ e. same_ascii b 98 e (omega arith)) (λ _. ascii_if (b == 102) _ _ b (λ e. same_ascii b 102 e (omega arith)) (λ _. ascii_if (b == 110) _ _ b (λ e. same_ascii b 110 e (omega arith))
    (λ _. ascii_if (b == 114) _ _ b (λ e. same_ascii b 114 e (omega arith)) (λ _. ascii_if (b == 116) _ _ b (λ e. same_ascii b 116 e (omega arith)) (λ _. tt))))))))

mapped_ascii : (o : Option ℕ) (b : ℕ) → IfSome o (λ _. b < 128) → IfSome (option_map char o) (λ _. b < 128)
mapped_ascii None b h = tt
mapped_ascii (Some v) b h = h

-- each byte of an escape is ASCII
step_ascii : (e : Escape) (b : ℕ) → IfSome (escape_step e b) (λ _. b < 128)
step_ascii begun b = ascii_if (b == 117) _ _ b (λ e. same_ascii b 117 e (omega arith)) (λ _. mapped_ascii (letter_char b) b (letter_ascii b))
step_ascii (unit o n v) b = ascii_if (is_digit b 16) _ _ b (λ e. always (unit_step o n (v * 16 + digit_value b)) b (digit_ascii b e)) (λ _. tt)
step_ascii (high h) b = ascii_if (b == 92) _ _ b (λ e. same_ascii b 92 e (omega arith)) (λ _. tt)
step_ascii (second h) b = ascii_if (b == 117) _ _ b (λ e. same_ascii b 117 e (omega arith)) (λ _. tt)

pub step_byte : (e : Escape) (b : ℕ) (st : EscapeStep) → escape_step e b ≡ Some st → b < 128
step_byte e b st is = subst (λ (o : Option EscapeStep). IfSome o (λ _. b < 128)) is (step_ascii e b)

module _ (text : List ℕ) (at : ℕ) (e : Escape) (h : at < length text) where
  pub escape_waits : (n : Escape) → escape_step e (get_or text at 0) ≡ Some (wait n) → (limit : ℕ) (k : Bool) (x : List ℕ) (s : State) → run limit (escaped k x e) s (drop at text) ≡ run limit (escaped k x n) s (drop (at + 1) text)
  escape_waits n is limit k x s = goes limit (escaped k x e) s text at (get_or text at 0) h refl (escaped k x n, s) (ap (option_map (after_step k x s)) is)

  pub escape_ends : (c : ℕ) → escape_step e (get_or text at 0) ≡ Some (char c) → (limit : ℕ) (k : Bool) (x : List ℕ) (s : State)
      → run limit (escaped k x e) s (drop at text) ≡ run limit (quoted k (x ++ encode_utf8 c)) s (drop (at + 1) text)
  escape_ends c is limit k x s = goes limit (escaped k x e) s text at (get_or text at 0) h refl (quoted k (x ++ encode_utf8 c), s) (ap (option_map (after_step k x s)) is)

  pub escape_fails : escape_step e (get_or text at 0) ≡ None → (limit : ℕ) (k : Bool) (x : List ℕ) (s : State) → run limit (escaped k x e) s (drop at text) ≡ None
  escape_fails is limit k x s = halts limit (escaped k x e) s text at (get_or text at 0) h refl (ap (option_map (after_step k x s)) is)

-- the text ends within the escape
pub escape_cut : (text : List ℕ) (at : ℕ) (e : Escape) → length text ≤ at → (limit : ℕ) (k : Bool) (x : List ℕ) (s : State) → run limit (escaped k x e) s (drop at text) ≡ None
unfolding run
escape_cut text at e h limit k x s = ap (run limit (escaped k x e) s) (drop_all at text h)

-- ---- an escape of one letter

not_u : (x : Bool) (b c : ℕ) → (b == 117) ≡ x → letter_char b ≡ Some c → (b == 117) ≡ false
not_u false b c e f = e
not_u true b c e f = let none : Some c ≡ None = sym f ∙ ap letter_char (Rattle.std.proofs.lemmas.Bool.eqb-true b 117 e) in cc

letter_step : (b c : ℕ) → letter_char b ≡ Some c → escape_step begun b ≡ Some (char c)
letter_step b c e = cond_no (b == 117) _ _ (not_u (b == 117) b c refl e) ∙ ap (option_map char) e

pub letter_escape : (text : List ℕ) (from c : ℕ) → from < length text → letter_char (get_or text from 0) ≡ Some c → FindsEscape text from c (from + 1)
letter_escape text from c h e =
    let is = letter_step (get_or text from 0) c e in
    let place : from ≡ from + 1 - 1 = omega arith in
    record {
      reads = escape_ends text from begun h c is;
      later = omega arith;
      within = omega (arith, h);
      ascii = subst (λ (i : ℕ). get_or text i 0 < 128) place (step_byte begun (get_or text from 0) (char c) is);
    }

letter_some : (b c : ℕ) → letter_or_none b ≡ c → 0 < c → letter_char b ≡ Some c
letter_some b c e l = some_of (letter_char b) c e l

pub one_letter : (text : List ℕ) (from c : ℕ) → from < length text → letter_or_none (get_or text from 0) ≡ c → 0 < c → FindsEscape text from c (from + 1)
one_letter text from c h e l = letter_escape text from c h (letter_some (get_or text from 0) c e l)

positive_if : (x : Bool) (t u : Option ℕ) → IfSome t (λ c. 0 < c) → IfSome u (λ c. 0 < c) → IfSome (cond x t u) (λ c. 0 < c)
positive_if true t u f g = f
positive_if false t u f g = g

letter_positive : (b : ℕ) → IfSome (letter_char b) (λ c. 0 < c)
letter_positive b =
    positive_if (b == 34) _ _ (omega arith) (positive_if (b == 92) _ _ (omega arith) (positive_if (b == 47) _ _ (omega arith) (positive_if (b == 98) _ _ (omega arith)
    (positive_if (b == 102) _ _ (omega arith) (positive_if (b == 110) _ _ (omega arith) (positive_if (b == 114) _ _ (omega arith) (positive_if (b == 116) _ _ (omega arith) tt)))))))

none_of : (o : Option ℕ) → IfSome o (λ c. 0 < c) → or_zero o ≡ 0 → o ≡ None
none_of None p e = refl
none_of (Some x) p e = absurd (omega (arith, p, e))

-- neither a letter nor a "u"
pub no_letter : (text : List ℕ) (from : ℕ) → from < length text → letter_or_none (get_or text from 0) ≡ 0 → (get_or text from 0 == 117) ≡ false → NoEscape text from
no_letter text from h e u =
    let b = get_or text from 0 in
    escape_fails text from begun h (cond_no (b == 117) _ _ u ∙ ap (option_map char) (none_of (letter_char b) (letter_positive b) e))

-- ---- the four digits of a unit

after_digit : (o : Option ℕ) (n v b : ℕ) → (n == 3) ≡ false → is_digit b 16 ≡ true → escape_step (unit o n v) b ≡ Some (wait (unit o (n + 1) (v * 16 + digit_value b)))
after_digit o n v b few d = ap (λ (y : Bool). cond y (unit_step o n (v * 16 + digit_value b)) None) d ∙ cond_no (n == 3) _ _ few

last_digit : (o : Option ℕ) (v b : ℕ) → is_digit b 16 ≡ true → escape_step (unit o 3 v) b ≡ unit_done o (v * 16 + digit_value b)
last_digit o v b d = ap (λ (y : Bool). cond y (unit_step o 3 (v * 16 + digit_value b)) None) d

no_digit : (o : Option ℕ) (n v b : ℕ) → is_digit b 16 ≡ false → escape_step (unit o n v) b ≡ None
no_digit o n v b d = cond_no (is_digit b 16) _ _ d

-- the text ends within a unit
unit_cut : (limit : ℕ) (k : Bool) (x : List ℕ) (s : State) (o : Option ℕ) (n v : ℕ) (bs : List ℕ) → length bs + n < 4 → run limit (escaped k x (unit o n v)) s bs ≡ None
unfolding run
unit_cut limit k x s o n v [] h = refl
unit_cut limit k x s o n v (b ∷ bs) h =
    let few : (n == 3) ≡ false = ne_false n 3 (λ e. omega (arith, h, e)) in
    by (is_digit b 16) (n == 3) few (unit_cut limit k x s o (n + 1) (v * 16 + digit_value b) bs (omega (arith, h)))
  where
    by : (d y : Bool) → y ≡ false → run limit (escaped k x (unit o (n + 1) (v * 16 + digit_value b))) s bs ≡ None
        → option_and_then (λ (p : Mode × State). run limit p.0 p.1 bs) (option_map (after_step k x s) (cond d (cond y (unit_done o (v * 16 + digit_value b)) (Some (wait (unit o (n + 1) (v * 16 + digit_value b))))) None)) ≡ None
    by false y e rest = refl
    by true false e rest = rest
    by true true e rest = cc

pub short_unit : (text : List ℕ) (from : ℕ) → from ≤ length text → length text - from < 4 → NoUnit text from
short_unit text from h l o limit k x s = unit_cut limit k x s o 0 0 (drop from text) (omega (arith, length-drop from text, l))

module _ (text : List ℕ) (from : ℕ) (h : from + 4 ≤ length text) where
  abbrev first : ℕ
  first = get_or text from 0

  abbrev next : ℕ
  next = get_or text (from + 1) 0

  abbrev third : ℕ
  third = get_or text (from + 2) 0

  abbrev fourth : ℕ
  fourth = get_or text (from + 3) 0

  module _ (limit : ℕ) (k : Bool) (x : List ℕ) (s : State) (o : Option ℕ) where
    one : is_digit first 16 ≡ true → run limit (escaped k x (unit o 0 0)) s (drop from text) ≡ run limit (escaped k x (unit o 1 (0 * 16 + digit_value first))) s (drop (from + 1) text)
    one d = escape_waits text from (unit o 0 0) (omega (arith, h)) (unit o 1 (0 * 16 + digit_value first)) (after_digit o 0 0 first refl d) limit k x s

    two : is_digit next 16 ≡ true → (v : ℕ) → run limit (escaped k x (unit o 1 v)) s (drop (from + 1) text) ≡ run limit (escaped k x (unit o 2 (v * 16 + digit_value next))) s (drop (from + 2) text)
    two d v =
        let place : from + 1 + 1 ≡ from + 2 = omega arith in
        escape_waits text (from + 1) (unit o 1 v) (omega (arith, h)) (unit o 2 (v * 16 + digit_value next)) (after_digit o 1 v next refl d) limit k x s
        ∙ ap (λ (i : ℕ). run limit (escaped k x (unit o 2 (v * 16 + digit_value next))) s (drop i text)) place

    three : is_digit third 16 ≡ true → (v : ℕ) → run limit (escaped k x (unit o 2 v)) s (drop (from + 2) text) ≡ run limit (escaped k x (unit o 3 (v * 16 + digit_value third))) s (drop (from + 3) text)
    three d v =
        let place : from + 2 + 1 ≡ from + 3 = omega arith in
        escape_waits text (from + 2) (unit o 2 v) (omega (arith, h)) (unit o 3 (v * 16 + digit_value third)) (after_digit o 2 v third refl d) limit k x s
        ∙ ap (λ (i : ℕ). run limit (escaped k x (unit o 3 (v * 16 + digit_value third))) s (drop i text)) place

    four : is_digit fourth 16 ≡ true → (v : ℕ) → run limit (escaped k x (unit o 3 v)) s (drop (from + 3) text) ≡ after_unit limit k x s o (v * 16 + digit_value fourth) (drop (from + 4) text)
    unfolding run
    four d v =
        let place : from + 3 + 1 ≡ from + 4 = omega arith in
        ap (run limit (escaped k x (unit o 3 v)) s) (here limit (escaped k x (unit o 3 v)) s text (from + 3) fourth (omega (arith, h)) refl)
        ∙ ap (λ (t : Option EscapeStep). option_and_then (λ (p : Mode × State). run limit p.0 p.1 (drop (from + 3 + 1) text)) (option_map (after_step k x s) t)) (last_digit o v fourth d)
        ∙ ap (λ (i : ℕ). after_unit limit k x s o (v * 16 + digit_value fourth) (drop i text)) place

  pub reads_unit : digit_or_none first ≤ 15 → digit_or_none next ≤ 15 → digit_or_none third ≤ 15 → digit_or_none fourth ≤ 15
      → HasUnit text from (((digit_or_none first * 16 + digit_or_none next) * 16 + digit_or_none third) * 16 + digit_or_none fourth)
  reads_unit a b c d =
      let same : (((0 * 16 + digit_value first) * 16 + digit_value next) * 16 + digit_value third) * 16 + digit_value fourth ≡ ((digit_or_none first * 16 + digit_or_none next) * 16 + digit_or_none third) * 16 + digit_or_none fourth
      = omega (arith, digit_is first a, digit_is next b, digit_is third c, digit_is fourth d) in
      record {
        reads = λ limit k x s o. one limit k x s o (is_a_digit first a) ∙ two limit k x s o (is_a_digit next b) (0 * 16 + digit_value first) ∙ three limit k x s o (is_a_digit third c) ((0 * 16 + digit_value first) * 16 + digit_value next)
            ∙ four limit k x s o (is_a_digit fourth d) (((0 * 16 + digit_value first) * 16 + digit_value next) * 16 + digit_value third)
            ∙ ap (λ (u : ℕ). after_unit limit k x s o u (drop (from + 4) text)) same;
        small = omega (arith, a, b, c, d);
        within = h;
        ascii = digit_ascii fourth (is_a_digit fourth d);
      }

  pub refuses_unit : (is_digit first 16 ≡ true → is_digit next 16 ≡ true → is_digit third 16 ≡ true → is_digit fourth 16 ≡ true → ⊥) → NoUnit text from
  refuses_unit bad o limit k x s = at_first (is_digit first 16) refl
    where
      at_fourth : is_digit first 16 ≡ true → is_digit next 16 ≡ true → is_digit third 16 ≡ true → (y : Bool) → is_digit fourth 16 ≡ y → (v : ℕ) → run limit (escaped k x (unit o 3 v)) s (drop (from + 3) text) ≡ None
      at_fourth a b c true d v = absurd (bad a b c d)
      at_fourth a b c false d v = escape_fails text (from + 3) (unit o 3 v) (omega (arith, h)) (no_digit o 3 v fourth d) limit k x s

      at_third : is_digit first 16 ≡ true → is_digit next 16 ≡ true → (y : Bool) → is_digit third 16 ≡ y → (v : ℕ) → run limit (escaped k x (unit o 2 v)) s (drop (from + 2) text) ≡ None
      at_third a b true c v = three limit k x s o c v ∙ at_fourth a b c (is_digit fourth 16) refl (v * 16 + digit_value third)
      at_third a b false c v = escape_fails text (from + 2) (unit o 2 v) (omega (arith, h)) (no_digit o 2 v third c) limit k x s

      at_next : is_digit first 16 ≡ true → (y : Bool) → is_digit next 16 ≡ y → (v : ℕ) → run limit (escaped k x (unit o 1 v)) s (drop (from + 1) text) ≡ None
      at_next a true b v = two limit k x s o b v ∙ at_third a b (is_digit third 16) refl (v * 16 + digit_value next)
      at_next a false b v = escape_fails text (from + 1) (unit o 1 v) (omega (arith, h)) (no_digit o 1 v next b) limit k x s

      at_first : (y : Bool) → is_digit first 16 ≡ y → run limit (escaped k x (unit o 0 0)) s (drop from text) ≡ None
      at_first true a = one limit k x s o a ∙ at_next a (is_digit next 16) refl (0 * 16 + digit_value first)
      at_first false a = escape_fails text from (unit o 0 0) (omega (arith, h)) (no_digit o 0 0 first a) limit k x s

pub small_digit : (b : ℕ) → is_digit b 16 ≡ true → digit_or_none b ≤ 15
small_digit b d = grind (arith, nat_tests)

-- ---- behind a "u"

module _ (text : List ℕ) (from u : ℕ) (has : HasUnit text from u) where
  pub high_unit : is_high_surrogate u ≡ true → (limit : ℕ) (k : Bool) (x : List ℕ) (s : State) → run limit (escaped k x (unit None 0 0)) s (drop from text) ≡ run limit (escaped k x (high u)) s (drop (from + 4) text)
  high_unit is limit k x s =
      has.reads limit k x s None
      ∙ ap (λ (y : Bool). option_and_then (λ (p : Mode × State). run limit p.0 p.1 (drop (from + 4) text)) (option_map (after_step k x s) (cond y (Some (wait (high u))) (cond (is_low_surrogate u) None (Some (char u)))))) is

  pub low_alone : is_high_surrogate u ≡ false → is_low_surrogate u ≡ true → FailsFrom (unit None 0 0) text from
  low_alone other is limit k x s =
      has.reads limit k x s None
      ∙ ap (λ (y : Bool). option_and_then (λ (p : Mode × State). run limit p.0 p.1 (drop (from + 4) text)) (option_map (after_step k x s) (cond y (Some (wait (high u))) (cond (is_low_surrogate u) None (Some (char u)))))) other
      ∙ ap (λ (y : Bool). option_and_then (λ (p : Mode × State). run limit p.0 p.1 (drop (from + 4) text)) (option_map (after_step k x s) (cond y None (Some (char u))))) is

  place : from + 4 - 1 ≡ from + 3
  place = omega arith

  pub whole_unit : is_high_surrogate u ≡ false → is_low_surrogate u ≡ false → FindsFrom (unit None 0 0) text from u (from + 4)
  whole_unit other neither = record {
    reads = λ limit k x s. has.reads limit k x s None
        ∙ ap (λ (y : Bool). option_and_then (λ (p : Mode × State). run limit p.0 p.1 (drop (from + 4) text)) (option_map (after_step k x s) (cond y (Some (wait (high u))) (cond (is_low_surrogate u) None (Some (char u)))))) other
        ∙ ap (λ (y : Bool). option_and_then (λ (p : Mode × State). run limit p.0 p.1 (drop (from + 4) text)) (option_map (after_step k x s) (cond y None (Some (char u))))) neither;
    later = omega arith;
    within = has.within;
    ascii = subst (λ (i : ℕ). get_or text i 0 < 128) (sym place) has.ascii;
  }

pub pair_finds : (text : List ℕ) (from u c end : ℕ) → HasUnit text from u → is_high_surrogate u ≡ true → FindsFrom (high u) text (from + 4) c end → FindsFrom (unit None 0 0) text from c end
pair_finds text from u c end has is f = record {
  reads = λ limit k x s. high_unit text from u has is limit k x s ∙ f.reads limit k x s;
  later = omega (arith, f.later);
  within = f.within;
  ascii = f.ascii;
}

pub pair_fails : (text : List ℕ) (from u : ℕ) → HasUnit text from u → is_high_surrogate u ≡ true → FailsFrom (high u) text (from + 4) → FailsFrom (unit None 0 0) text from
pair_fails text from u has is f limit k x s = high_unit text from u has is limit k x s ∙ f limit k x s

-- ---- behind a high surrogate

high_cut : (limit : ℕ) (k : Bool) (x : List ℕ) (s : State) (u : ℕ) (bs : List ℕ) → length bs < 2 → run limit (escaped k x (high u)) s bs ≡ None
unfolding run
high_cut limit k x s u [] h = refl
high_cut limit k x s u (b ∷ []) h = by (b == 92)
  where
    by : (y : Bool) → option_and_then (λ (p : Mode × State). run limit p.0 p.1 []) (option_map (after_step k x s) (cond y (Some (wait (second u))) None)) ≡ None
    by true = refl
    by false = refl
high_cut limit k x s u (b ∷ c ∷ bs) h = absurd (omega (arith, h))

pub short_pair : (text : List ℕ) (from u : ℕ) → from ≤ length text → length text - from < 2 → FailsFrom (high u) text from
short_pair text from u h l limit k x s = high_cut limit k x s u (drop from text) (omega (arith, length-drop from text, l))

module _ (text : List ℕ) (from u : ℕ) (h : from + 2 ≤ length text) where
  pub no_backslash : (get_or text from 0 == 92) ≡ false → FailsFrom (high u) text from
  no_backslash e = escape_fails text from (high u) (omega (arith, h)) (cond_no (get_or text from 0 == 92) _ _ e)

  module _ (slash : get_or text from 0 ≡ 92) where
    waits : (limit : ℕ) (k : Bool) (x : List ℕ) (s : State) → run limit (escaped k x (high u)) s (drop from text) ≡ run limit (escaped k x (second u)) s (drop (from + 1) text)
    waits = escape_waits text from (high u) (omega (arith, h)) (second u) (ap (escape_step (high u)) slash)

    pub no_u : (get_or text (from + 1) 0 == 117) ≡ false → FailsFrom (high u) text from
    no_u e limit k x s = waits limit k x s ∙ escape_fails text (from + 1) (second u) (omega (arith, h)) (cond_no (get_or text (from + 1) 0 == 117) _ _ e) limit k x s

    module _ (is : get_or text (from + 1) 0 ≡ 117) where
      begins : (limit : ℕ) (k : Bool) (x : List ℕ) (s : State) → run limit (escaped k x (high u)) s (drop from text) ≡ run limit (escaped k x (unit (Some u) 0 0)) s (drop (from + 2) text)
      begins limit k x s =
          let place : from + 1 + 1 ≡ from + 2 = omega arith in
          waits limit k x s ∙ escape_waits text (from + 1) (second u) (omega (arith, h)) (unit (Some u) 0 0) (ap (escape_step (second u)) is) limit k x s
          ∙ ap (λ (i : ℕ). run limit (escaped k x (unit (Some u) 0 0)) s (drop i text)) place

      pub no_second : NoUnit text (from + 2) → FailsFrom (high u) text from
      no_second bad limit k x s = begins limit k x s ∙ bad (Some u) limit k x s

      module _ (low : ℕ) (has : HasUnit text (from + 2) low) where
        pub not_low : is_low_surrogate low ≡ false → FailsFrom (high u) text from
        not_low e limit k x s =
            begins limit k x s ∙ has.reads limit k x s (Some u)
            ∙ ap (λ (y : Bool). option_and_then (λ (p : Mode × State). run limit p.0 p.1 (drop (from + 2 + 4) text)) (option_map (after_step k x s) (cond y (Some (char (surrogate_pair_char u low))) None))) e

        pub finds_pair : is_low_surrogate low ≡ true → FindsFrom (high u) text from (surrogate_pair_char u low) (from + 6)
        finds_pair e =
            let six : from + 2 + 4 ≡ from + 6 = omega arith in
            let last : from + 2 + 3 ≡ from + 6 - 1 = omega arith in
            record {
              reads = λ limit k x s. begins limit k x s ∙ has.reads limit k x s (Some u)
                  ∙ ap (λ (y : Bool). option_and_then (λ (p : Mode × State). run limit p.0 p.1 (drop (from + 2 + 4) text)) (option_map (after_step k x s) (cond y (Some (char (surrogate_pair_char u low))) None))) e
                  ∙ ap (λ (i : ℕ). run limit (quoted k (x ++ encode_utf8 (surrogate_pair_char u low))) s (drop i text)) six;
              later = omega arith;
              within = omega (arith, has.within);
              ascii = subst (λ (i : ℕ). get_or text i 0 < 128) last has.ascii;
            }

-- ---- behind a backslash

module _ (text : List ℕ) (from : ℕ) (h : from < length text) (is : get_or text from 0 ≡ 117) where
  begins_unit : (limit : ℕ) (k : Bool) (x : List ℕ) (s : State) → run limit (escaped k x begun) s (drop from text) ≡ run limit (escaped k x (unit None 0 0)) s (drop (from + 1) text)
  begins_unit = escape_waits text from begun h (unit None 0 0) (ap (escape_step begun) is)

  pub unit_finds : (c end : ℕ) → FindsFrom (unit None 0 0) text (from + 1) c end → FindsEscape text from c end
  unit_finds c end f = record { reads = λ limit k x s. begins_unit limit k x s ∙ f.reads limit k x s; later = omega (arith, f.later); within = f.within; ascii = f.ascii }

  pub unit_fails : FailsFrom (unit None 0 0) text (from + 1) → NoEscape text from
  unit_fails f limit k x s = begins_unit limit k x s ∙ f limit k x s
