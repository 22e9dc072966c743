-- Quotients cut, raised and rounded.
use Rattle.std.proofs.Common.{◌≡◌, ℕ, zero, suc, ◌+◌, ◌-◌, ◌*◌, ◌/◌, ◌%◌, ◌^◌, ◌<◌, ◌≤◌, Bool, true, false, not, pos, neg_ℤ, refl, sym, ap, ap₂, ◌∙◌, arith, add-one, mul_assoc, add-mul, one-mul, mul_left_comm, pow-add, div-add-mod', mod-lt, mul-le-mul, le_refl, lt-ltb, le-ltb, nat_lt, mul-lt-mul_of_pos_right, Ok, Err}
use Rattle.std.proofs.lemmas.Bool.{cond-true, cond-false}
use Rattle.std.proofs.Math.Nat.{mul-div-mul_right, div-eq_of_lt-le, add-div_right, zero-div, div-eq_of_lt}
use Rattle.std.specs.Int.{int_div_euclid}
use Rattle.sj_decimal.specs.Limits.{magnitude_limit}
use Rattle.sj_decimal.specs.Signed.{signed, IsSignOf, is_negative-signed, unsigned_abs-signed}
use Rattle.sj_decimal.specs.Normal.{normal, IsDecimal}
use Rattle.sj_decimal.specs.Rounding.{rounded, rounded_within}
use Rattle.sj_decimal.specs.Magnitudes.{quotient_toward}
use Rattle.sj_decimal.specs.declared.arithmetic.NumFault.TheVariants.{Range}
use Rattle.sj_decimal.proofs.Powers.{power_pos, power_le}
use Rattle.sj_decimal.proofs.NormalForm.{signed-mul, normal-scaled, normal_decimal}
use Rattle.sj_decimal.proofs.Operations.{signed-not}

raised : (n p : ℕ) → 0 < p → (suc n + (p - 1)) / p ≡ suc (n / p)
raised n p some =
    let sum : suc n + (p - 1) ≡ n + p = omega (arith, some) in
    ap (λ k. k / p) sum ∙ add-div_right n some ∙ add-one (n / p)

-- the floor of a number with this sign
pub floor_signed : (b : Bool) (m p : ℕ) → 0 < p → int_div_euclid (signed b m) (pos p) ≡ signed b (quotient_toward b m p)
floor_signed false m p some = refl
floor_signed true zero p some =
    let none : (0 + (p - 1)) / p ≡ 0 = div-eq_of_lt (omega (arith, some)) in
    rw (zero-div p, none) refl
floor_signed true (suc n) p some = rw (raised n p some) refl

pub ceiling_signed : (b : Bool) (m p : ℕ) → 0 < p → neg_ℤ (int_div_euclid (neg_ℤ (signed b m)) (pos p)) ≡ signed b (quotient_toward (not b) m p)
ceiling_signed b m p some =
    ap (λ z. neg_ℤ (int_div_euclid z (pos p))) (sym (signed-not b m))
    ∙ ap neg_ℤ (floor_signed (not b) m p some)
    ∙ sym (signed-not (not b) (quotient_toward (not b) m p))
    ∙ twice b (quotient_toward (not b) m p)
  where
    twice : (d : Bool) (k : ℕ) → signed (not (not d)) k ≡ signed d k
    twice false k = refl
    twice true k = refl

-- rounding to at least as many decimals changes nothing
pub rounded_more : (m s t : ℕ) → s ≤ t → (2 * (m * 10 ^ t) + 10 ^ s) / (2 * 10 ^ s) ≡ m * 10 ^ (t - s)
rounded_more m s t more =
    let p : ℕ = 10 ^ s in
    let k : ℕ = m * 10 ^ (t - s) in
    let some : 0 < p = power_pos s in
    let split : 10 ^ t ≡ 10 ^ (t - s) * 10 ^ s = ap (λ e. 10 ^ e) (omega (arith, more)) ∙ pow-add 10 (t - s) s in
    let grown : m * 10 ^ t ≡ k * p = ap (λ e. m * e) split ∙ sym (mul_assoc m (10 ^ (t - s)) p) in
    let low : k * (2 * p) ≡ 2 * (k * p) = mul_left_comm k 2 p in
    let high : (k + 1) * (2 * p) ≡ 2 * (k * p) + 2 * p = add-mul k 1 (2 * p) ∙ ap₂ (λ (x y : ℕ). x + y) low (one-mul (2 * p)) in
    div-eq_of_lt-le {k = k} (2 * p) {m = 2 * (m * 10 ^ t) + p} (omega (arith, grown, low)) (omega (arith, grown, high, some))

-- rounding to fewer decimals looks at what is cut off
rounded_fewer : (m s t p : ℕ) → 0 < p → 10 ^ s ≡ p * 10 ^ t → (2 * (m * 10 ^ t) + 10 ^ s) / (2 * 10 ^ s) ≡ (2 * m + p) / (2 * p)
rounded_fewer m s t p some split =
    let above : 2 * (m * 10 ^ t) + 10 ^ s ≡ (2 * m + p) * 10 ^ t =
    ap (λ e. 2 * (m * 10 ^ t) + e) split ∙ ap (λ e. e + p * 10 ^ t) (sym (mul_assoc 2 m (10 ^ t))) ∙ sym (add-mul (2 * m) p (10 ^ t)) in
    let below : 2 * 10 ^ s ≡ 2 * p * 10 ^ t = ap (λ e. 2 * e) split ∙ sym (mul_assoc 2 p (10 ^ t)) in
    ap₂ (λ (x y : ℕ). x / y) above below ∙ mul-div-mul_right {m = 10 ^ t} (2 * m + p) (2 * p) (power_pos t)

half_is : (m p q : ℕ) → 0 < p → q * (2 * p) ≤ 2 * m + p → 2 * m + p < (q + 1) * (2 * p) → (2 * m + p) / (2 * p) ≡ q
half_is m p q some low high = div-eq_of_lt-le {k = q} (2 * p) {m = 2 * m + p} low high

pub rounded_up : (m s t p : ℕ) → t < s → p ≡ 10 ^ (s - t) → p - m % p ≤ m % p → (2 * (m * 10 ^ t) + 10 ^ s) / (2 * 10 ^ s) ≡ m / p + 1
rounded_up m s t p fewer power half =
    let some : 0 < p = rw power (power_pos (s - t)) in
    let split : 10 ^ s ≡ p * 10 ^ t = ap (λ e. 10 ^ e) (omega (arith, fewer)) ∙ pow-add 10 (s - t) t ∙ ap (λ e. e * 10 ^ t) (sym power) in
    let parts : m / p * p + m % p ≡ m = div-add-mod' m p in
    let small : m % p < p = mod-lt m some in
    let q : ℕ = m / p in
    let twice : q * (2 * p) ≡ 2 * (q * p) = mul_left_comm q 2 p in
    let once : (q + 1) * (2 * p) ≡ 2 * (q * p) + 2 * p = add-mul q 1 (2 * p) ∙ ap₂ (λ (x y : ℕ). x + y) twice (one-mul (2 * p)) in
    let more : (q + 1 + 1) * (2 * p) ≡ 2 * (q * p) + 2 * p + 2 * p = add-mul (q + 1) 1 (2 * p) ∙ ap₂ (λ (x y : ℕ). x + y) once (one-mul (2 * p)) in
    rounded_fewer m s t p some split ∙ half_is m p (q + 1) some (omega (arith, once, parts, half, small)) (omega (arith, more, parts, small))

pub rounded_down : (m s t p : ℕ) → t < s → p ≡ 10 ^ (s - t) → m % p < p - m % p → (2 * (m * 10 ^ t) + 10 ^ s) / (2 * 10 ^ s) ≡ m / p
rounded_down m s t p fewer power less =
    let some : 0 < p = rw power (power_pos (s - t)) in
    let split : 10 ^ s ≡ p * 10 ^ t = ap (λ e. 10 ^ e) (omega (arith, fewer)) ∙ pow-add 10 (s - t) t ∙ ap (λ e. e * 10 ^ t) (sym power) in
    let parts : m / p * p + m % p ≡ m = div-add-mod' m p in
    let q : ℕ = m / p in
    let twice : q * (2 * p) ≡ 2 * (q * p) = mul_left_comm q 2 p in
    let once : (q + 1) * (2 * p) ≡ 2 * (q * p) + 2 * p = add-mul q 1 (2 * p) ∙ ap₂ (λ (x y : ℕ). x + y) twice (one-mul (2 * p)) in
    rounded_fewer m s t p some split ∙ half_is m p q some (omega (arith, twice, parts)) (omega (arith, once, parts, less))

pub fewer_small : (m s t p : ℕ) → t < s → p ≡ 10 ^ (s - t) → m < magnitude_limit → m / p + 1 < magnitude_limit
fewer_small m s t p fewer power small =
    let ten : 10 ≤ p = rw power (power_le 1 (s - t) (omega (arith, fewer))) in
    let part : m / p * 10 ≤ m / p * p = mul-le-mul (le_refl (m / p)) ten in
    let whole : m / p * p + m % p ≡ m = div-add-mod' m p in
    omega (arith, part, whole, small)

pub raised_even : (m p : ℕ) → 0 < p → m % p ≡ 0 → m / p ≡ (m + (p - 1)) / p
raised_even m p some even =
    let parts : m / p * p + m % p ≡ m = div-add-mod' m p in
    let next : (m / p + 1) * p ≡ m / p * p + p = add-mul (m / p) 1 p ∙ ap (λ e. m / p * p + e) (one-mul p) in
    sym (div-eq_of_lt-le {k = m / p} p {m = m + (p - 1)} (omega (arith, parts, even)) (omega (arith, next, parts, even, some)))

-- ---- the rounded number, against the digits that it may have

rounded_signed : (b : Bool) (m k s : ℕ) → IsSignOf b m → rounded s (signed b m, k) ≡ signed b ((2 * (m * 10 ^ s) + 10 ^ k) / (2 * 10 ^ k))
rounded_signed b m k s sign =
    ap₂ (λ (d : Bool) (n : ℕ). signed d ((2 * (n * 10 ^ s) + 10 ^ k) / (2 * 10 ^ k))) (is_negative-signed b m sign) (unsigned_abs-signed b m)

pub rounded_within_digits : (b : Bool) (m k p s n : ℕ) → IsSignOf b m → n ≡ (2 * (m * 10 ^ s) + 10 ^ k) / (2 * 10 ^ k) → n < 10 ^ p
    → rounded_within p s (signed b m, k) ≡ Ok (normal (signed b n, s))
rounded_within_digits b m k p s n sign is few =
    let same : rounded s (signed b m, k) ≡ signed b n = rounded_signed b m k s sign ∙ ap (signed b) (sym is) in
    rw same (cond-true _ _ _ (ap (λ x. nat_lt x (10 ^ p)) (unsigned_abs-signed b n) ∙ lt-ltb n (10 ^ p) few))

pub rounded_past_digits : (b : Bool) (m k p s n : ℕ) → IsSignOf b m → n ≡ (2 * (m * 10 ^ s) + 10 ^ k) / (2 * 10 ^ k) → 10 ^ p ≤ n
    → rounded_within p s (signed b m, k) ≡ Err Range
rounded_past_digits b m k p s n sign is many =
    let same : rounded s (signed b m, k) ≡ signed b n = rounded_signed b m k s sign ∙ ap (signed b) (sym is) in
    rw same (cond-false _ _ _ (ap (λ x. nat_lt x (10 ^ p)) (unsigned_abs-signed b n) ∙ le-ltb n (10 ^ p) many))

-- ---- a number of at most s decimals is its own rounding

digits_split : (p s k : ℕ) → k ≤ s → s ≤ p → 10 ^ p ≡ 10 ^ (p - s + k) * 10 ^ (s - k)
digits_split p s k more within = ap (λ e. 10 ^ e) (omega (arith, more, within)) ∙ pow-add 10 (p - s + k) (s - k)

pub kept_within_digits : (b : Bool) (m k p s : ℕ) → IsSignOf b m → IsDecimal (signed b m, k) → k ≤ s → s ≤ p → m < 10 ^ (p - s + k)
    → rounded_within p s (signed b m, k) ≡ Ok (signed b m, k)
kept_within_digits b m k p s sign number more within few =
    let below : m * 10 ^ (s - k) < 10 ^ (p - s + k) * 10 ^ (s - k) = mul-lt-mul_of_pos_right {m = m} {n = 10 ^ (p - s + k)} {k = 10 ^ (s - k)} few (power_pos (s - k)) in
    rounded_within_digits b m k p s (m * 10 ^ (s - k)) sign (sym (rounded_more m k s more)) (rw (digits_split p s k more within) below)
    ∙ ap (λ t. Ok (normal (signed b (m * 10 ^ (s - k)), t))) (omega (arith, more))
    ∙ ap (λ c. Ok (normal (c, k + (s - k)))) (sym (signed-mul b m (10 ^ (s - k))))
    ∙ ap Ok (normal-scaled (signed b m) k (s - k) ∙ normal_decimal (signed b m, k) number)

pub kept_past_digits : (b : Bool) (m k p s : ℕ) → IsSignOf b m → k ≤ s → s ≤ p → 10 ^ (p - s + k) ≤ m
    → rounded_within p s (signed b m, k) ≡ Err Range
kept_past_digits b m k p s sign more within many =
    let above : 10 ^ (p - s + k) * 10 ^ (s - k) ≤ m * 10 ^ (s - k) = mul-le-mul many (le_refl (10 ^ (s - k))) in
    rounded_past_digits b m k p s (m * 10 ^ (s - k)) sign (sym (rounded_more m k s more)) (rw (digits_split p s k more within) above)
