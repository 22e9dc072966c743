-- The states of an escape follow the units of UTF-16 that it writes.
use Rattle.std.proofs.Common.{◌≡◌, ◌≢◌, ℕ, zero, suc, ◌+◌, ◌*◌, ◌/◌, ◌<◌, ◌≤◌, ◌⊎◌, inl, inr, ⊎_elim, Bool, true, false, cond, eqb, ltb, leb, Option, Some, None, is_some, option_map, option_and_then, refl, sym, ap, ◌∙◌, subst, arith, ne_eqb, eq-eqb, eqb-true, lt-ltb, le-ltb}
use borrow.Author.Tests.{eqb-false, ltb-true}
use Rattle.std.specs.Char.{digit_value, is_digit}
use Rattle.std.specs.Char.Utf16.{is_high_surrogate, is_low_surrogate, surrogate_pair_char}
use Rattle.std.proofs.lemmas.Bool.{cond-true, cond-false, cases_Bool, cases_lt as order, and_left, and_right, and_from, le-leb, lt-leb}
use Rattle.sj_base.specs.ByteClasses.{letter_char}
use Rattle.sj_json.specs.Machine as m
use Rattle.sj_scan.specs.declared.escape.Escape.{Escape}
use Rattle.sj_scan.specs.declared.escape.Escape.TheVariants.{Begun, First, FirstD, Rest3, Rest2, Rest1, High2, High1, High, Second, Low, LowD, Low2, Low1}
use Rattle.sj_scan.specs.declared.escape.Escaped.{Escaped}
use Rattle.sj_scan.specs.declared.escape.Escaped.TheVariants.{GoesOn, Ended}
use Rattle.sj_scan.specs.Escapes.{digit_step, escape_step}

-- ---- the state at a unit of which n digits came, whose number is v

abbrev two_digits : ℕ → Option Escape
two_digits v = cond (ltb v 216) (Some Rest2) (cond (ltb v 220) (Some High2) (cond (ltb v 224) None (Some Rest2)))

abbrev three_digits : ℕ → Option Escape
three_digits w = cond (ltb w 216) (Some Rest1) (cond (ltb w 220) (Some High1) (cond (ltb w 224) None (Some Rest1)))

abbrev two_low_digits : ℕ → Option Escape
two_low_digits v = cond (ltb v 220) None (cond (ltb v 224) (Some Low2) None)

abbrev three_low_digits : ℕ → Option Escape
three_low_digits w = cond (ltb w 220) None (cond (ltb w 224) (Some Low1) None)

abbrev pub first_unit : ℕ → ℕ → Option Escape
first_unit zero v = Some First
first_unit (suc zero) v = cond (eqb v 13) (Some FirstD) (Some Rest3)
first_unit (suc (suc zero)) v = two_digits v
first_unit (suc (suc (suc zero))) v = three_digits (v / 16)
first_unit (suc (suc (suc (suc n)))) v = None

abbrev pub low_unit : ℕ → ℕ → Option Escape
low_unit zero v = Some Low
low_unit (suc zero) v = cond (eqb v 13) (Some LowD) None
low_unit (suc (suc zero)) v = two_low_digits v
low_unit (suc (suc (suc zero))) v = three_low_digits (v / 16)
low_unit (suc (suc (suc (suc n)))) v = None

abbrev pub unit_state : Option ℕ → ℕ → ℕ → Option Escape
unit_state None n v = first_unit n v
unit_state (Some h) n v = low_unit n v

abbrev pub shadow_escape : m.Escape → Option Escape
shadow_escape m.begun = Some Begun
shadow_escape (m.unit o n v) = unit_state o n v
shadow_escape (m.high h) = Some High
shadow_escape (m.second h) = Some Second

-- the number of n digits
abbrev pub IsUnit : ℕ → ℕ → Type 0
IsUnit zero v = v < 1
IsUnit (suc zero) v = v < 16
IsUnit (suc (suc zero)) v = v < 256
IsUnit (suc (suc (suc zero))) v = v < 4096
IsUnit (suc (suc (suc (suc n)))) v = ⊥

abbrev pub Made : m.Escape → Type 0
Made m.begun = Unit {0}
Made (m.unit o n v) = IsUnit n v
Made (m.high h) = Unit {0}
Made (m.second h) = Unit {0}

abbrev pub FollowsIn : Option m.EscapeStep → Option Escaped → Type 0
FollowsIn None o = o ≡ None
FollowsIn (Some (m.wait e)) o = Made e × (option_map GoesOn (shadow_escape e) ≡ o)
FollowsIn (Some (m.char c)) o = o ≡ Some Ended

-- ---- one digit more

under : {A : Type 0} (b n : ℕ) (x y : A) → b < n → cond (ltb b n) x y ≡ x
under b n x y h = cond-true (ltb b n) x y (lt-ltb b n h)

above : {A : Type 0} (b n : ℕ) (x y : A) → n ≤ b → cond (ltb b n) x y ≡ y
above b n x y h = cond-false (ltb b n) x y (le-ltb b n h)

equal : {A : Type 0} (b n : ℕ) (x y : A) → b ≡ n → cond (eqb b n) x y ≡ x
equal b n x y h = cond-true (eqb b n) x y (eq-eqb b n h)

other : {A : Type 0} (b n : ℕ) (x y : A) → b ≢ n → cond (eqb b n) x y ≡ y
other b n x y h = cond-false (eqb b n) x y (ne_eqb b n h)

same_or : (b n : ℕ) → (b ≡ n) ⊎ (b ≢ n)
same_or b n = ⊎_elim (λ e. inl (eqb-true b n e)) (λ e. inr (eqb-false b n e)) (cases_Bool (eqb b n))

abbrev goes : Option Escape → Option Escaped
goes o = option_map GoesOn o

abbrev by_digit : ℕ → Option Escape → Option Escaped
by_digit d o = option_and_then (λ (q : Escape). digit_step q d) o

one_digit : (v d : ℕ) → v < 1 → goes (first_unit 1 (v * 16 + d)) ≡ digit_step First d
one_digit v d h =
    let e : v * 16 + d ≡ d = omega arith in
    ⊎_elim
    (λ k. ap goes (equal (v * 16 + d) 13 (Some FirstD) (Some Rest3) (e ∙ k)) ∙ sym (equal d 13 (Some (GoesOn FirstD)) (Some (GoesOn Rest3)) k))
    (λ k. ap goes (other (v * 16 + d) 13 (Some FirstD) (Some Rest3) (λ z. k (sym e ∙ z))) ∙ sym (other d 13 (Some (GoesOn FirstD)) (Some (GoesOn Rest3)) k))
    (same_or d 13)

one_low_digit : (v d : ℕ) → v < 1 → goes (low_unit 1 (v * 16 + d)) ≡ digit_step Low d
one_low_digit v d h =
    let e : v * 16 + d ≡ d = omega arith in
    ⊎_elim
    (λ k. ap goes (equal (v * 16 + d) 13 (Some LowD) None (e ∙ k)) ∙ sym (equal d 13 (Some (GoesOn LowD)) None k))
    (λ k. ap goes (other (v * 16 + d) 13 (Some LowD) None (λ z. k (sym e ∙ z))) ∙ sym (other d 13 (Some (GoesOn LowD)) None k))
    (same_or d 13)

two_below : (x : ℕ) → x < 216 → two_digits x ≡ Some Rest2
two_below x h = under x 216 _ _ h

two_high : (x : ℕ) → 216 ≤ x → x < 220 → two_digits x ≡ Some High2
two_high x l h = above x 216 _ _ l ∙ under x 220 _ _ h

two_none : (x : ℕ) → 220 ≤ x → x < 224 → two_digits x ≡ None
two_none x l h = above x 216 _ _ (omega arith) ∙ above x 220 _ _ l ∙ under x 224 _ _ h

two_above : (x : ℕ) → 224 ≤ x → two_digits x ≡ Some Rest2
two_above x l = above x 216 _ _ (omega arith) ∙ above x 220 _ _ (omega arith) ∙ above x 224 _ _ l

behind_d : (x d : ℕ) → x ≡ 208 + d → d < 16 → goes (two_digits x) ≡ digit_step FirstD d
behind_d x d e h =
    ⊎_elim
    (λ lt. ap goes (two_below x (omega (arith, e, lt))) ∙ sym (under d 8 (Some (GoesOn Rest2)) _ lt))
    (λ ge. ⊎_elim
    (λ lt. ap goes (two_high x (omega (arith, e, ge)) (omega (arith, e, lt))) ∙ sym (above d 8 _ _ ge ∙ under d 12 (Some (GoesOn High2)) None lt))
    (λ gt. ap goes (two_none x (omega (arith, e, gt)) (omega (arith, e, h))) ∙ sym (above d 8 _ _ ge ∙ above d 12 (Some (GoesOn High2)) None gt))
    (order d 12))
    (order d 8)

second_digit : (v d : ℕ) → v < 16 → d < 16 → goes (two_digits (v * 16 + d)) ≡ by_digit d (first_unit 1 v)
second_digit v d h k =
    ⊎_elim
    (λ e. behind_d (v * 16 + d) d (omega (arith, e)) k ∙ sym (ap (by_digit d) (equal v 13 (Some FirstD) (Some Rest3) e)))
    (λ n. ⊎_elim (λ lt. ap goes (two_below (v * 16 + d) (omega (arith, lt)))) (λ ge. let gt : 13 < v = omega (arith, n, ge) in ap goes (two_above (v * 16 + d) (omega (arith, gt)))) (order v 13)
    ∙ sym (ap (by_digit d) (other v 13 (Some FirstD) (Some Rest3) n)))
    (same_or v 13)

low_below : (x : ℕ) → x < 220 → two_low_digits x ≡ None
low_below x h = under x 220 _ _ h

low_is : (x : ℕ) → 220 ≤ x → x < 224 → two_low_digits x ≡ Some Low2
low_is x l h = above x 220 _ _ l ∙ under x 224 _ _ h

low_above : (x : ℕ) → 224 ≤ x → two_low_digits x ≡ None
low_above x l = above x 220 _ _ (omega arith) ∙ above x 224 _ _ l

behind_low_d : (x d : ℕ) → x ≡ 208 + d → d < 16 → goes (two_low_digits x) ≡ digit_step LowD d
behind_low_d x d e h =
    ⊎_elim
    (λ lt. ap goes (low_below x (omega (arith, e, lt))) ∙ sym (under d 12 None (Some (GoesOn Low2)) lt))
    (λ ge. ap goes (low_is x (omega (arith, e, ge)) (omega (arith, e, h))) ∙ sym (above d 12 None (Some (GoesOn Low2)) ge))
    (order d 12)

second_low_digit : (v d : ℕ) → v < 16 → d < 16 → goes (two_low_digits (v * 16 + d)) ≡ by_digit d (low_unit 1 v)
second_low_digit v d h k =
    ⊎_elim
    (λ e. behind_low_d (v * 16 + d) d (omega (arith, e)) k ∙ sym (ap (by_digit d) (equal v 13 (Some LowD) None e)))
    (λ n. ⊎_elim (λ lt. ap goes (low_below (v * 16 + d) (omega (arith, lt)))) (λ ge. let gt : 13 < v = omega (arith, n, ge) in ap goes (low_above (v * 16 + d) (omega (arith, gt)))) (order v 13)
    ∙ sym (ap (by_digit d) (other v 13 (Some LowD) None n)))
    (same_or v 13)

same_tests : (x y z : Bool) (d : ℕ)
    → goes (cond x (Some Rest1) (cond y (Some High1) (cond z None (Some Rest1)))) ≡ by_digit d (cond x (Some Rest2) (cond y (Some High2) (cond z None (Some Rest2))))
same_tests true y z d = refl
same_tests false true z d = refl
same_tests false false true d = refl
same_tests false false false d = refl

same_low_tests : (x y : Bool) (d : ℕ) → goes (cond x None (cond y (Some Low1) None)) ≡ by_digit d (cond x None (cond y (Some Low2) None))
same_low_tests true y d = refl
same_low_tests false true d = refl
same_low_tests false false d = refl

upper : (v d : ℕ) → d < 16 → (v * 16 + d) / 16 ≡ v
upper v d h = omega arith

third_digit : (v d : ℕ) → d < 16 → goes (three_digits ((v * 16 + d) / 16)) ≡ by_digit d (two_digits v)
third_digit v d h = ap (λ (w : ℕ). goes (three_digits w)) (upper v d h) ∙ same_tests (ltb v 216) (ltb v 220) (ltb v 224) d

third_low_digit : (v d : ℕ) → d < 16 → goes (three_low_digits ((v * 16 + d) / 16)) ≡ by_digit d (two_low_digits v)
third_low_digit v d h = ap (λ (w : ℕ). goes (three_low_digits w)) (upper v d h) ∙ same_low_tests (ltb v 220) (ltb v 224) d

-- ---- the last digit

is_high : (u : ℕ) → 55296 ≤ u → u < 56320 → is_high_surrogate u ≡ true
is_high u l h = and_from (leb 55296 u) (ltb u 56320) (le-leb 55296 u l) (lt-ltb u 56320 h)

below_high : (u : ℕ) → u < 55296 → is_high_surrogate u ≡ false
below_high u h = and_left (leb 55296 u) (ltb u 56320) (lt-leb 55296 u h)

above_high : (u : ℕ) → 56320 ≤ u → is_high_surrogate u ≡ false
above_high u h = and_right (leb 55296 u) (ltb u 56320) (le-ltb u 56320 h)

is_low : (u : ℕ) → 56320 ≤ u → u < 57344 → is_low_surrogate u ≡ true
is_low u l h = and_from (leb 56320 u) (ltb u 57344) (le-leb 56320 u l) (lt-ltb u 57344 h)

below_low : (u : ℕ) → u < 56320 → is_low_surrogate u ≡ false
below_low u h = and_left (leb 56320 u) (ltb u 57344) (lt-leb 56320 u h)

above_low : (u : ℕ) → 57344 ≤ u → is_low_surrogate u ≡ false
above_low u h = and_right (leb 56320 u) (ltb u 57344) (le-ltb u 57344 h)

done_high : (u : ℕ) → is_high_surrogate u ≡ true → m.unit_done None u ≡ Some (m.wait (m.high u))
done_high u h = cond-true (is_high_surrogate u) _ _ h

done_low : (u : ℕ) → is_high_surrogate u ≡ false → is_low_surrogate u ≡ true → m.unit_done None u ≡ None
done_low u h l = cond-false (is_high_surrogate u) _ _ h ∙ cond-true (is_low_surrogate u) _ _ l

done_char : (u : ℕ) → is_high_surrogate u ≡ false → is_low_surrogate u ≡ false → m.unit_done None u ≡ Some (m.char u)
done_char u h l = cond-false (is_high_surrogate u) _ _ h ∙ cond-false (is_low_surrogate u) _ _ l

follows_is : (s t : Option m.EscapeStep) (o p : Option Escaped) → s ≡ t → o ≡ p → FollowsIn t p → FollowsIn s o
follows_is s t o p e f h = subst (λ (x : Option m.EscapeStep). FollowsIn x o) (sym e) (subst (λ (x : Option Escaped). FollowsIn t x) (sym f) h)

last_digit : (v d : ℕ) → d < 16 → FollowsIn (m.unit_done None (v * 16 + d)) (by_digit d (three_digits (v / 16)))
last_digit v d h = by (order (v / 16) 216) (order (v / 16) 220) (order (v / 16) 224)
  where
    by : (v / 16 < 216) ⊎ (216 ≤ v / 16) → (v / 16 < 220) ⊎ (220 ≤ v / 16) → (v / 16 < 224) ⊎ (224 ≤ v / 16) → FollowsIn (m.unit_done None (v * 16 + d)) (by_digit d (three_digits (v / 16)))
    by (inl lt) _ _ =
        let u : v * 16 + d < 55296 = omega arith in
        follows_is _ _ _ (Some Ended) (done_char (v * 16 + d) (below_high (v * 16 + d) u) (below_low (v * 16 + d) (omega arith))) (ap (by_digit d) (under (v / 16) 216 _ _ lt)) refl
    by (inr ge) (inl lt) _ =
        let l : 55296 ≤ v * 16 + d = omega arith in
        let u : v * 16 + d < 56320 = omega arith in
        follows_is _ _ _ (Some (GoesOn High)) (done_high (v * 16 + d) (is_high (v * 16 + d) l u)) (ap (by_digit d) (above (v / 16) 216 _ _ ge ∙ under (v / 16) 220 _ _ lt)) (tt, refl)
    by (inr ge) (inr gf) (inl lt) =
        let l : 56320 ≤ v * 16 + d = omega arith in
        let u : v * 16 + d < 57344 = omega arith in
        follows_is _ None _ None (done_low (v * 16 + d) (above_high (v * 16 + d) l) (is_low (v * 16 + d) l u)) (ap (by_digit d) (above (v / 16) 216 _ _ ge ∙ above (v / 16) 220 _ _ gf ∙ under (v / 16) 224 _ _ lt)) refl
    by (inr ge) (inr gf) (inr gg) =
        let l : 57344 ≤ v * 16 + d = omega arith in
        follows_is _ _ _ (Some Ended) (done_char (v * 16 + d) (above_high (v * 16 + d) (omega arith)) (above_low (v * 16 + d) l)) (ap (by_digit d) (above (v / 16) 216 _ _ ge ∙ above (v / 16) 220 _ _ gf ∙ above (v / 16) 224 _ _ gg)) refl

last_low_digit : (g v d : ℕ) → d < 16 → FollowsIn (m.unit_done (Some g) (v * 16 + d)) (by_digit d (three_low_digits (v / 16)))
last_low_digit g v d h = by (order (v / 16) 220) (order (v / 16) 224)
  where
    by : (v / 16 < 220) ⊎ (220 ≤ v / 16) → (v / 16 < 224) ⊎ (224 ≤ v / 16) → FollowsIn (m.unit_done (Some g) (v * 16 + d)) (by_digit d (three_low_digits (v / 16)))
    by (inl lt) _ =
        let u : v * 16 + d < 56320 = omega arith in
        follows_is _ None _ None (cond-false (is_low_surrogate (v * 16 + d)) _ _ (below_low (v * 16 + d) u)) (ap (by_digit d) (under (v / 16) 220 _ _ lt)) refl
    by (inr ge) (inl lt) =
        let l : 56320 ≤ v * 16 + d = omega arith in
        let u : v * 16 + d < 57344 = omega arith in
        follows_is _ (Some (m.char (surrogate_pair_char g (v * 16 + d)))) _ (Some Ended) (cond-true (is_low_surrogate (v * 16 + d)) _ _ (is_low (v * 16 + d) l u)) (ap (by_digit d) (above (v / 16) 220 _ _ ge ∙ under (v / 16) 224 _ _ lt)) refl
    by (inr ge) (inr gf) =
        let l : 57344 ≤ v * 16 + d = omega arith in
        follows_is _ None _ None (cond-false (is_low_surrogate (v * 16 + d)) _ _ (above_low (v * 16 + d) l)) (ap (by_digit d) (above (v / 16) 220 _ _ ge ∙ above (v / 16) 224 _ _ gf)) refl

-- ---- each digit

digit_follows : (o : Option ℕ) (n v d : ℕ) → IsUnit n v → d < 16 → FollowsIn (m.unit_step o n (v * 16 + d)) (by_digit d (unit_state o n v))
digit_follows None zero v d h k = (omega arith, one_digit v d h)
digit_follows (Some g) zero v d h k = (omega arith, one_low_digit v d h)
digit_follows None (suc zero) v d h k = (omega arith, second_digit v d h k)
digit_follows (Some g) (suc zero) v d h k = (omega arith, second_low_digit v d h k)
digit_follows None (suc (suc zero)) v d h k = (omega arith, third_digit v d k)
digit_follows (Some g) (suc (suc zero)) v d h k = (omega arith, third_low_digit v d k)
digit_follows None (suc (suc (suc zero))) v d h k = last_digit v d k
digit_follows (Some g) (suc (suc (suc zero))) v d h k = last_low_digit g v d k
digit_follows None (suc (suc (suc (suc n)))) v d h k = absurd h
digit_follows (Some g) (suc (suc (suc (suc n)))) v d h k = absurd h

-- the states in which a digit comes
abbrev TakesDigit : Option Escape → Type 0
TakesDigit o = (b : ℕ) → option_and_then (λ (q : Escape). escape_step q b) o ≡ cond (is_digit b 16) (by_digit (digit_value b) o) None

no_state : TakesDigit None
no_state b = neither (is_digit b 16)
  where
    neither : (x : Bool) → ◌≡◌ {A = Option Escaped} None (cond x None None)
    neither true = refl
    neither false = refl

either : (x : Bool) (s t : Option Escape) → TakesDigit s → TakesDigit t → TakesDigit (cond x s t)
either true s t h k = h
either false s t h k = k

takes_digit : (o : Option ℕ) (n v : ℕ) → TakesDigit (unit_state o n v)
takes_digit None zero v = λ b. refl
takes_digit (Some g) zero v = λ b. refl
takes_digit None (suc zero) v = either (eqb v 13) (Some FirstD) (Some Rest3) (λ b. refl) (λ b. refl)
takes_digit (Some g) (suc zero) v = either (eqb v 13) (Some LowD) None (λ b. refl) no_state
takes_digit None (suc (suc zero)) v =
    either (ltb v 216) (Some Rest2) _ (λ b. refl) (either (ltb v 220) (Some High2) _ (λ b. refl) (either (ltb v 224) None (Some Rest2) no_state (λ b. refl)))
takes_digit (Some g) (suc (suc zero)) v = either (ltb v 220) None _ no_state (either (ltb v 224) (Some Low2) None (λ b. refl) no_state)
takes_digit None (suc (suc (suc zero))) v =
    either (ltb (v / 16) 216) (Some Rest1) _ (λ b. refl) (either (ltb (v / 16) 220) (Some High1) _ (λ b. refl) (either (ltb (v / 16) 224) None (Some Rest1) no_state (λ b. refl)))
takes_digit (Some g) (suc (suc (suc zero))) v = either (ltb (v / 16) 220) None _ no_state (either (ltb (v / 16) 224) (Some Low1) None (λ b. refl) no_state)
takes_digit None (suc (suc (suc (suc n)))) v = no_state
takes_digit (Some g) (suc (suc (suc (suc n)))) v = no_state

by_test : (x : Bool) (s : Option m.EscapeStep) (o : Option Escaped) → (x ≡ true → FollowsIn s o) → FollowsIn (cond x s None) (cond x o None)
by_test true s o h = h refl
by_test false s o h = refl

after_letter : (o : Option ℕ) → FollowsIn (option_map m.char o) (cond (is_some o) (Some Ended) None)
after_letter None = refl
after_letter (Some c) = refl

by_u : (x : Bool) (s t : Option m.EscapeStep) (o p : Option Escaped) → FollowsIn s o → FollowsIn t p → FollowsIn (cond x s t) (cond x o p)
by_u true s t o p h k = h
by_u false s t o p h k = k

-- one byte of an escape
pub escape_follows : (e : m.Escape) (b : ℕ) → Made e → FollowsIn (m.escape_step e b) (option_and_then (λ (q : Escape). escape_step q b) (shadow_escape e))
escape_follows m.begun b h = by_u (eqb b 117) (Some (m.wait (m.unit None 0 0))) _ (Some (GoesOn First)) _ (omega arith, refl) (after_letter (letter_char b))
escape_follows (m.unit o n v) b h =
    subst (FollowsIn (m.escape_step (m.unit o n v) b)) (sym (takes_digit o n v b))
    (by_test (is_digit b 16) _ _ (λ e. digit_follows o n v (digit_value b) h (ltb-true (digit_value b) 16 e)))
escape_follows (m.high h) b k = by_u (eqb b 92) (Some (m.wait (m.second h))) None (Some (GoesOn Second)) None (tt, refl) refl
escape_follows (m.second h) b k = by_u (eqb b 117) (Some (m.wait (m.unit (Some h) 0 0))) None (Some (GoesOn Low)) None (omega arith, refl) refl
