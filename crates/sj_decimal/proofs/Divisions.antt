-- Quotients digit by digit, and remainders.
use Rattle.std.proofs.Common.{◌≡◌, ◌≢◌, ℕ, zero, suc, ◌+◌, ◌-◌, ◌*◌, ◌/◌, ◌%◌, ◌^◌, ◌<◌, ◌≤◌, Bool, true, false, not, eqb, nat_lt, nat_le, ℤ, pos, negsuc, neg_ℤ, ◌+ℤ◌, ◌-ℤ◌, ◌*ℤ◌, unsigned_abs, int_div, int_rem, Result, Ok, Err, refl, sym, ap, ap₂, ◌∙◌, subst, ⊎_elim, arith, add-one, mul_assoc, mul_comm, pow-add, pow-suc, div-add-mod', ne_eqb, lt-ltb, le-leb, ltb-true, leb-true, mul-pos, pos_of_ne-zero, to_z, of_z, ◌⊎◌, inl, inr, div-le_self}
use Rattle.std.specs.Int.{w128}
use mathlib.Core.Bool.{beq}
use Rattle.std.proofs.Math.Nat.{mul-div-mul_right, mul-add-div_right, mul-add-mod_self_right, div-div-eq-div-mul, eq_of_mul-eq-mul_right, zero-div, zero-mod}
use Rattle.std.proofs.lemmas.Nat.{mod-mul-add}
use Rattle.std.proofs.lemmas.Int.{ints, quot-rem}
use Rattle.std.proofs.lemmas.Bool.{cond-true, cond-false, cases_Bool, cases_eq, and_from, and_parts}
use Rattle.sj_decimal.specs.Limits.{max_scale, magnitude_limit}
use Rattle.sj_decimal.specs.declared.arithmetic.NumFault.{NumFault}
use Rattle.sj_decimal.specs.declared.arithmetic.NumFault.TheVariants.{Range}
use Rattle.sj_decimal.specs.declared.significand.Significand.{Significand}
use Rattle.sj_decimal.specs.declared.parsing.Parsed.{Parsed}
use Rattle.sj_decimal.specs.declared.parsing.Parsed.TheVariants.{Exact, Wide, NotNumber}
use Rattle.sj_decimal.specs.Signed.{signed, unsigned_abs-signed}
use Rattle.sj_decimal.specs.Normal.{reduced, normal, IsExact, IsWithinLimits, IsDecimal}
use Rattle.sj_decimal.specs.Number.{shifted}
use Rattle.sj_decimal.specs.Parses.{Evaluates}
use Rattle.sj_decimal.specs.Significant.{Keeps, IsTooLong, with_digit}
use Rattle.sj_decimal.specs.Arithmetic.{rest, unless_zero, exact_or_range, limited, quotient_16}
use Rattle.sj_decimal.proofs.Powers.{power_pos}
use Rattle.sj_decimal.proofs.Reduced.{reduced_value, reduced_normal, reduced_le}
use Rattle.sj_decimal.proofs.NormalForm.{signed-mul, exact_from_limits, limits_from_exact, exact_small}
use Rattle.sj_decimal.proofs.Significands.{keeps_digit, too_long_wide}
use Rattle.sj_decimal.proofs.Shifts.{evaluates_along, shifted_zeros}
use Rattle.sj_decimal.proofs.Operations.{limited_exact}

-- ---- exact, or out of range

pub exact_result : (d : ℤ × ℕ) → IsExact d → exact_or_range d ≡ Ok (normal d)
unfolding exact_or_range
exact_result d h =
    let l : IsWithinLimits (normal d) = limits_from_exact d h in
    cond-true _ _ _ (and_from (nat_lt (unsigned_abs (normal d).0) magnitude_limit) (nat_le (normal d).1 max_scale)
    (lt-ltb (unsigned_abs (normal d).0) magnitude_limit l.coefficient) (le-leb (normal d).1 max_scale l.scale))

pub wide_result : (d : ℤ × ℕ) → ¬ (IsExact d) → exact_or_range d ≡ Err Range
unfolding exact_or_range
wide_result d h =
    ⊎_elim
    (λ yes.
    let both : (nat_lt (unsigned_abs (normal d).0) magnitude_limit ≡ true) × (nat_le (normal d).1 max_scale ≡ true) =
    and_parts (nat_lt (unsigned_abs (normal d).0) magnitude_limit) (nat_le (normal d).1 max_scale) yes in
    absurd (h (exact_from_limits d (record {
      coefficient = ltb-true (unsigned_abs (normal d).0) magnitude_limit both.0;
      scale = leb-true (normal d).1 max_scale both.1;
    }))))
    (λ no. cond-false _ _ _ no)
    (cases_Bool _)

pub limited_is_exact : (b : Bool) (m s : ℕ) → m < magnitude_limit → s ≤ max_scale → limited (signed b m) s ≡ exact_or_range (signed b m, s)
limited_is_exact b m s small few =
    let exact : IsExact (signed b m, s) = exact_small b m s small few in
    limited_exact b m s small exact ∙ sym (exact_result (signed b m, s) exact)

-- ---- a divisor that is not zero

pub divides : (d : Bool) (n k : ℕ) (r : Result (ℤ × ℕ) NumFault) → n ≢ 0 → unless_zero (signed d n, k) r ≡ r
divides d n k r some = cond-false _ _ _ (ap (λ x. eqb x 0) (unsigned_abs-signed d n) ∙ ne_eqb n 0 some)

-- ---- the remainder

difference_is : (a q r : ℤ) → q +ℤ r ≡ a → a -ℤ q ≡ r
difference_is a q r h = omega (arith, ints, h)

int_rem_signed : (b d : Bool) (x y : ℕ) → int_rem (signed b x) (signed d y) ≡ signed b (x % y)
int_rem_signed false d x y = ap (λ n. pos (x % n)) (unsigned_abs-signed d y)
int_rem_signed true d zero y = ap (λ n. pos (0 % n)) (unsigned_abs-signed d y) ∙ ap pos (zero-mod y) ∙ sym (ap (λ n. neg_ℤ (pos n)) (zero-mod y))
int_rem_signed true d (suc x) y = ap (λ n. neg_ℤ (pos (suc x % n))) (unsigned_abs-signed d y)

pub rest_signed : (b d : Bool) (x y : ℕ) → rest (signed b x) (signed d y) ≡ signed b (x % y)
rest_signed b d x y =
    difference_is (signed b x) (int_div (signed b x) (signed d y) *ℤ signed d y) (int_rem (signed b x) (signed d y)) (quot-rem (signed b x) (signed d y))
    ∙ int_rem_signed b d x y

-- ---- the quotient

int_div_signed : (b d : Bool) (x y : ℕ) → 0 < y → int_div (signed b x) (signed d y) ≡ signed (not (beq b d)) (x / y)
int_div_signed false false x y some = refl
int_div_signed false true x zero some = absurd (omega arith)
int_div_signed false true x (suc y) some = refl
int_div_signed true false zero y some = ap pos (zero-div y) ∙ sym (ap (λ n. neg_ℤ (pos n)) (zero-div y))
int_div_signed true false (suc x) y some = refl
int_div_signed true true x zero some = absurd (omega arith)
int_div_signed true true zero (suc y) some = ap (λ n. neg_ℤ (pos n)) (zero-div (suc y)) ∙ sym (ap pos (zero-div (suc y)))
int_div_signed true true (suc x) (suc y) some = refl

quotient_magnitude : (b d : Bool) (m j n k : ℕ) → 0 < n → quotient_16 (signed b m, j) (signed d n, k) ≡ signed (not (beq b d)) (m * 10 ^ (k + 16) / (n * 10 ^ j))
quotient_magnitude b d m j n k some =
    ap₂ (λ (x y : ℤ). int_div x y) (signed-mul b m (10 ^ (k + 16))) (signed-mul d n (10 ^ j))
    ∙ int_div_signed b d (m * 10 ^ (k + 16)) (n * 10 ^ j) (mul-pos some (power_pos j))

-- the quotient with further digits
pub quotient_more : (b d : Bool) (m j n k : ℕ) → 0 < n → j ≤ k + 16 → quotient_16 (signed b m, j) (signed d n, k) ≡ signed (not (beq b d)) (m * 10 ^ (k + 16 - j) / n)
quotient_more b d m j n k some h =
    let split : 10 ^ (k + 16) ≡ 10 ^ (k + 16 - j) * 10 ^ j = ap (λ e. 10 ^ e) (omega (arith, h)) ∙ pow-add 10 (k + 16 - j) j in
    let grown : m * 10 ^ (k + 16) ≡ m * 10 ^ (k + 16 - j) * 10 ^ j = ap (λ e. m * e) split ∙ sym (mul_assoc m (10 ^ (k + 16 - j)) (10 ^ j)) in
    quotient_magnitude b d m j n k some
    ∙ ap (λ e. signed (not (beq b d)) (e / (n * 10 ^ j))) grown
    ∙ ap (signed (not (beq b d))) (mul-div-mul_right {m = 10 ^ j} (m * 10 ^ (k + 16 - j)) n (power_pos j))

-- the quotient with digits cut
pub quotient_fewer : (b d : Bool) (m j n k : ℕ) → 0 < n → k + 16 ≤ j → quotient_16 (signed b m, j) (signed d n, k) ≡ signed (not (beq b d)) (m / n / 10 ^ (j - (k + 16)))
quotient_fewer b d m j n k some h =
    let p : ℕ = 10 ^ (j - (k + 16)) in
    let split : 10 ^ j ≡ p * 10 ^ (k + 16) = ap (λ e. 10 ^ e) (omega (arith, h)) ∙ pow-add 10 (j - (k + 16)) (k + 16) in
    let grown : n * 10 ^ j ≡ n * p * 10 ^ (k + 16) = ap (λ e. n * e) split ∙ sym (mul_assoc n p (10 ^ (k + 16))) in
    quotient_magnitude b d m j n k some
    ∙ ap (λ e. signed (not (beq b d)) (m * 10 ^ (k + 16) / e)) grown
    ∙ ap (signed (not (beq b d))) (mul-div-mul_right {m = 10 ^ (k + 16)} m (n * p) (power_pos (k + 16)) ∙ sym (div-div-eq-div-mul m n p))

-- ---- its digits

pub rest_of_sum : (q r n d : ℕ) → q * d + r ≡ n → r < d → r ≡ n % d
rest_of_sum q r n d sum small = sym (mod-mul-add q d r small) ∙ ap (λ k. k % d) sum

-- one digit more of l * 10 ^ i / n
pub quotient_step : (l n i : ℕ) → 0 < n → l * 10 ^ (i + 1) / n ≡ l * 10 ^ i / n * 10 + l * 10 ^ i % n * 10 / n
quotient_step l n i some =
    let x : ℕ = l * 10 ^ i in
    let grown : l * 10 ^ (i + 1) ≡ x * 10 = rw (add-one, pow-suc, ← mul_assoc) refl in
    let parts : x / n * n + x % n ≡ x = div-add-mod' x n in
    let ten : x * 10 ≡ x / n * 10 * n + x % n * 10 = omega (arith, parts, tens (x / n) n) in
    ap (λ k. k / n) (grown ∙ ten) ∙ mul-add-div_right {m = n} some (x / n * 10) (x % n * 10)
  where
    tens : (q m : ℕ) → q * 10 * m ≡ q * m * 10
    tens q m = mul_assoc q 10 m ∙ ap (λ k. q * k) (mul_comm 10 m) ∙ sym (mul_assoc q m 10)

pub rest_step : (l n i : ℕ) → 0 < n → l * 10 ^ (i + 1) % n ≡ l * 10 ^ i % n * 10 % n
rest_step l n i some =
    let x : ℕ = l * 10 ^ i in
    let grown : l * 10 ^ (i + 1) ≡ x * 10 = rw (add-one, pow-suc, ← mul_assoc) refl in
    let parts : x / n * n + x % n ≡ x = div-add-mod' x n in
    let ten : x * 10 ≡ x / n * 10 * n + x % n * 10 = omega (arith, parts, tens (x / n) n) in
    ap (λ k. k % n) (grown ∙ ten) ∙ mul-add-mod_self_right (x / n * 10) n (x % n * 10)
  where
    tens : (q m : ℕ) → q * 10 * m ≡ q * m * 10
    tens q m = mul_assoc q 10 m ∙ ap (λ k. q * k) (mul_comm 10 m) ∙ sym (mul_assoc q m 10)

-- the digits of a whole number, without the zeros at its end
pub keeps_number : (n : ℕ) (r : ℕ × ℕ) → r ≡ reduced n max_scale → n < magnitude_limit → (r.1 ≤ max_scale) × (n ≡ r.0 * 10 ^ (max_scale - r.1)) × (r.0 % 10 ≡ 0 → r.0 ≡ 0)
keeps_number n r is small =
    let value : r.0 * magnitude_limit ≡ n * 10 ^ r.1 = rw is (reduced_value n max_scale) in
    let few : r.1 ≤ max_scale = rw is (reduced_le n max_scale).1 in
    let both : max_scale ≡ max_scale - r.1 + r.1 = omega (arith, few) in
    let split : magnitude_limit ≡ 10 ^ (max_scale - r.1) * 10 ^ r.1 = ap (λ e. 10 ^ e) both ∙ pow-add 10 (max_scale - r.1) r.1 in
    let same : n * 10 ^ r.1 ≡ r.0 * 10 ^ (max_scale - r.1) * 10 ^ r.1 = sym value ∙ ap (λ e. r.0 * e) split ∙ sym (mul_assoc r.0 (10 ^ (max_scale - r.1)) (10 ^ r.1)) in
    let number : n ≡ r.0 * 10 ^ (max_scale - r.1) = eq_of_mul-eq-mul_right (10 ^ r.1) (power_pos r.1) n (r.0 * 10 ^ (max_scale - r.1)) same in (
      few,
      number,
      λ ends. ⊎_elim
          (λ none. all_zeros r.0 r.1 n number none small)
          (λ some. absurd (ends_in_none r is (pos_of_ne-zero some) ends))
          (cases_eq r.1 0),
    )
  where
    all_zeros : (m t k : ℕ) → k ≡ m * 10 ^ (max_scale - t) → t ≡ 0 → k < magnitude_limit → m ≡ 0
    all_zeros m t k e none below = let same : k ≡ m * magnitude_limit = e ∙ ap (λ x. m * 10 ^ (max_scale - x)) none in omega (arith, same, below)

    ends_in_none : (q : ℕ × ℕ) → q ≡ reduced n max_scale → 0 < q.1 → q.0 % 10 ≢ 0
    ends_in_none q e = rw e (reduced_normal n max_scale)

-- what the digits of a quotient make of it
pub quotient_wide : (b : Bool) (n : ℕ) → IsTooLong n → exact_or_range (signed b n, 16) ≡ Err Range
quotient_wide b n h = wide_result (signed b n, 16) (too_long_wide b n (negsuc 15) h)

pub quotient_answer : (b : Bool) (n m z : ℕ) (e : ℤ) (r : Parsed) → n ≡ m * 10 ^ z → e ≡ negsuc 15 +ℤ pos z → Evaluates (shifted b m e) r → Evaluates (signed b n, 16) r
quotient_answer b n m z e r digits is h =
    evaluates_along (shifted b m e) (signed b n, 16) r
    (sym (ap (λ k. normal (signed b k, 16)) digits ∙ shifted_zeros b m z (negsuc 15) e is)) h

-- one turn of the loop
pub keeps_next : (l n i r d : ℕ) (s t : Significand) → 0 < n → r ≡ l * 10 ^ i % n → d ≡ r * 10 / n → d < 10 → Keeps (l * 10 ^ i / n) s → t ≡ with_digit s d → Keeps (l * 10 ^ (i + 1) / n) t
keeps_next l n i r d s t some left digit small kept next =
    let is : l * 10 ^ (i + 1) / n ≡ l * 10 ^ i / n * 10 + d = quotient_step l n i some ∙ ap (λ k. l * 10 ^ i / n * 10 + k) (sym (digit ∙ ap (λ k. k * 10 / n) left)) in
    rw (is, next) (keeps_digit (l * 10 ^ i / n) s d small kept)

pub result_is : (v : ℤ × ℕ) (d : ℤ × ℕ) → Evaluates v (Exact d) → Ok d ≡ exact_or_range v
result_is v d h = ap Ok h.1 ∙ sym (exact_result v h.0)

pub fault_is : (v : ℤ × ℕ) → Evaluates v Wide → Err Range ≡ exact_or_range v
fault_is v h = sym (wide_result v h)

pub shift_of_zeros : (z : ℕ) → z < 2 ^ 64 → to_z w128 (of_z w128 (to_z w128 z -ℤ pos 16)) ≡ negsuc 15 +ℤ pos z
shift_of_zeros z few = omega (arith, ints, few)

pub fault_of : (v : ℤ × ℕ) (r : Parsed) → Evaluates v r → (r ≡ Wide) ⊎ (r ≡ NotNumber) → Err Range ≡ exact_or_range v
fault_of v r h (inl e) = fault_is v (subst (Evaluates v) e h)
fault_of v r h (inr e) = absurd (subst (Evaluates v) e h)

pub cut_small : (b : Bool) (m s n p : ℕ) → IsDecimal (signed b m, s) → m / n / p < magnitude_limit
cut_small b m s n p h =
    let small : m < magnitude_limit = rw (unsigned_abs-signed b m) at h.limits.coefficient in
    let first : m / n ≤ m = div-le_self m n in
    let second : m / n / p ≤ m / n = div-le_self (m / n) p in
    omega (arith, small, first, second)
