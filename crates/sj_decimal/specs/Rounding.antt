-- Whole numbers near a decimal, and the nearest decimal with fewer decimals.
use Rattle.std.specs.Prelude.{ℕ, ◌+◌, ◌*◌, ◌/◌, ◌^◌, nat_lt, if◌then◌else◌, ℤ, pos, neg_ℤ, unsigned_abs, int_div, Result, Ok, Err}
use Rattle.std.specs.Int.{int_div_euclid}
use Rattle.sj_decimal.specs.declared.arithmetic.NumFault.{NumFault}
use Rattle.sj_decimal.specs.declared.arithmetic.NumFault.TheVariants.{Range}
use Rattle.sj_decimal.specs.Signed.{signed, is_negative}
use Rattle.sj_decimal.specs.Normal.{normal}

-- the greatest whole number that is not above d
abbrev pub floor_of : ℤ × ℕ → ℤ
floor_of d = int_div_euclid d.0 (pos (10 ^ d.1))

-- the least whole number that is not below d
abbrev pub ceiling_of : ℤ × ℕ → ℤ
ceiling_of d = neg_ℤ (int_div_euclid (neg_ℤ d.0) (pos (10 ^ d.1)))

-- d cut toward zero
abbrev pub whole_of : ℤ × ℕ → ℤ
whole_of d = int_div d.0 (pos (10 ^ d.1))

-- the whole number nearest to d times 10 ^ s, and of two the one away from zero: the magnitude and a half, cut
abbrev pub rounded : ℕ → ℤ × ℕ → ℤ
rounded s d = signed (is_negative d.0) ((2 * (unsigned_abs d.0 * 10 ^ s) + 10 ^ d.1) / (2 * 10 ^ d.1))

-- d rounded to s decimals, where that has at most p digits
abbrev pub rounded_within : ℕ → ℕ → ℤ × ℕ → Result (ℤ × ℕ) NumFault
rounded_within p s d = if nat_lt (unsigned_abs (rounded s d)) (10 ^ p) then Ok (normal (rounded s d, s)) else Err Range
