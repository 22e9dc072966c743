-- What the rounded numbers are.
use Rattle.std.proofs.Common.{◌≡◌, ℕ, ◌+◌, ◌*◌, ◌/◌, ◌^◌, ◌<◌, ◌≤◌, Bool, true, false, cond, nat_lt, ℤ, unsigned_abs, Result, Ok, Err, refl, ap, ◌∙◌, arith, mul-le-mul, le_refl, add-mul, one-mul}
use Rattle.std.proofs.lemmas.Bool.Decides.{nat_tests}
use Rattle.std.proofs.Math.Nat.{div-lt_iff_lt-mul}
use Rattle.sj_decimal.specs.Limits.{max_digits, magnitude_limit}
use Rattle.sj_decimal.specs.declared.arithmetic.NumFault.{NumFault}
use Rattle.sj_decimal.specs.declared.arithmetic.NumFault.TheVariants.{Range}
use Rattle.sj_decimal.specs.Normal.{normal, IsDecimal}
use Rattle.sj_decimal.specs.Signed.{is_negative, unsigned_abs-signed}
use Rattle.sj_decimal.specs.Rounding.{rounded, rounded_within}
use Rattle.sj_decimal.proofs.NormalForm.{normal_same}
use Rattle.sj_decimal.proofs.Powers.{power_pos}

-- a test that gives a number holds, and this is the number
from_test : (b : Bool) (x r : ℤ × ℕ) → cond {A = Result (ℤ × ℕ) NumFault} b (Ok x) (Err Range) ≡ Ok r → (b ≡ true) × (r ≡ x)
from_test true x r h = (refl, cc)
from_test false x r h = absurd cc

-- and one that gives a fault does not hold
fault_from_test : (b : Bool) (x : ℤ × ℕ) (fault : NumFault) → cond {A = Result (ℤ × ℕ) NumFault} b (Ok x) (Err Range) ≡ Err fault → b ≡ false
fault_from_test true x fault h = absurd cc
fault_from_test false x fault h = refl

lt_from : (m n : ℕ) → nat_lt m n ≡ true → m < n
lt_from m n h = grind (arith, nat_tests)

not_lt_from : (m n : ℕ) → nat_lt m n ≡ false → n ≤ m
not_lt_from m n h = grind (arith, nat_tests)

-- the number that `round_to` gives
pub rounded_is : (p s : ℕ) (d r : ℤ × ℕ) → rounded_within p s d ≡ Ok r → (unsigned_abs (rounded s d) < 10 ^ p) × (r ≡ normal (rounded s d, s))
rounded_is p s d r h =
    let both = from_test (nat_lt (unsigned_abs (rounded s d)) (10 ^ p)) (normal (rounded s d, s)) r h in
    (lt_from (unsigned_abs (rounded s d)) (10 ^ p) both.0, both.1)

-- a whole number is in normal form
pub whole_is : (p : ℕ) (d r : ℤ × ℕ) → rounded_within p 0 d ≡ Ok r → r ≡ (rounded 0 d, 0)
whole_is p d r h = (rounded_is p 0 d r h).1 ∙ normal_same (rounded 0 d, 0) (λ some. absurd (omega arith))

-- no whole number is greater than the one that it was rounded from
not_greater : (m p : ℕ) → 0 < p → (2 * (m * 10 ^ 0) + p) / (2 * p) < m + 1
not_greater m p some =
    let twice : m * 2 ≤ m * (2 * p) = mul-le-mul (le_refl m) (omega (arith, some)) in
    let next : (m + 1) * (2 * p) ≡ m * (2 * p) + 2 * p = add-mul m 1 (2 * p) ∙ ap (λ (e : ℕ). m * (2 * p) + e) (one-mul (2 * p)) in
    (div-lt_iff_lt-mul {k = 2 * p} {x = 2 * (m * 10 ^ 0) + p} {y = m + 1} (omega (arith, some))).1 (rw next (omega (arith, twice, some)))

-- so each decimal has one
pub whole_exists : (d : ℤ × ℕ) (fault : NumFault) → IsDecimal d → rounded_within max_digits 0 d ≡ Err fault → ⊥
whole_exists d fault h e =
    let q : ℕ = (2 * (unsigned_abs d.0 * 10 ^ 0) + 10 ^ d.1) / (2 * 10 ^ d.1) in
    let size : unsigned_abs (rounded 0 d) ≡ q = unsigned_abs-signed (is_negative d.0) q in
    let large : magnitude_limit ≤ unsigned_abs (rounded 0 d) = not_lt_from (unsigned_abs (rounded 0 d)) magnitude_limit (fault_from_test _ _ fault e) in
    omega (arith, size, large, not_greater (unsigned_abs d.0) (10 ^ d.1) (power_pos d.1), h.limits.coefficient)
