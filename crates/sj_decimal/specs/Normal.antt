-- A decimal is a pair (c, s) of a whole number c, the coefficient, and a count s of decimals, the scale. It stands for c / 10 ^ s.
-- The definitions here and in the other files are on whole numbers of any size, and know no limit but those that they state.
use Rattle.std.specs.Prelude.{◌≡◌, ◌≢◌, ℕ, zero, suc, ◌/◌, ◌%◌, ◌^◌, ◌<◌, ◌≤◌, ◌==◌, if◌then◌else◌, ℤ, pos, ◌*ℤ◌, unsigned_abs}
use Rattle.sj_decimal.specs.Limits.{max_scale, magnitude_limit}
use Rattle.sj_decimal.specs.Signed.{signed, is_negative}

-- two pairs stand for one number
abbrev pub IsSameNumber : ℤ × ℕ → ℤ × ℕ → Type 0
IsSameNumber a b = a.0 *ℤ pos (10 ^ b.1) ≡ b.0 *ℤ pos (10 ^ a.1)

-- the scale is 0, or 10 does not divide the coefficient
abbrev pub IsNormal : ℤ × ℕ → Type 0
IsNormal d = 0 < d.1 → unsigned_abs d.0 % 10 ≢ 0

-- n / 10 ^ s in normal form: a last zero goes while there are decimals
unfoldable pub reduced : ℕ → ℕ → ℕ × ℕ
reduced n zero = (n, 0)
reduced n (suc s) = if n % 10 == 0 then reduced (n / 10) s else (n, suc s)

-- the pair in normal form that stands for the same number
unfoldable pub normal : ℤ × ℕ → ℤ × ℕ
normal d = let r = reduced (unsigned_abs d.0) d.1 in (signed (is_negative d.0) r.0, r.1)

-- the coefficient has no more digits than may be
abbrev pub IsBelowLimit : ℤ → Type 0
IsBelowLimit c = unsigned_abs c < magnitude_limit

-- no more digits and no more decimals than may be
pub record IsWithinLimits (d : ℤ × ℕ) : Type 0 where
  pub coefficient : IsBelowLimit d.0
  pub scale : d.1 ≤ max_scale

-- the number that d stands for is exact: its normal form is within the limits
unfoldable pub IsExact : ℤ × ℕ → Type 0
IsExact d = IsWithinLimits (normal d)

-- d is an exact number in normal form, as each `Decimal` is
pub record IsDecimal (d : ℤ × ℕ) : Type 0 where
  pub normal : IsNormal d
  pub limits : IsWithinLimits d
