-- Numbers without a sign, as the code has them on the way.
use Rattle.std.specs.Prelude.{ℕ, ◌+◌, ◌-◌, ◌*◌, ◌/◌, ◌^◌, ◌&&◌, nat_lt, if◌then◌else◌, Bool, true, false, Option, Some, None}
use Rattle.sj_decimal.specs.Limits.{magnitude_limit}

-- the magnitudes at the larger scale, and that scale, where both are below the limit
unfoldable pub magnitudes_at : ℕ → ℕ → ℕ → ℕ → ℕ → Option (ℕ × ℕ × ℕ)
magnitudes_at s m j n k =
    if nat_lt (m * 10 ^ (s - j)) magnitude_limit && nat_lt (n * 10 ^ (s - k)) magnitude_limit then Some (m * 10 ^ (s - j), n * 10 ^ (s - k), s) else None

-- m / n, cut or raised to the next whole number
abbrev pub quotient_toward : Bool → ℕ → ℕ → ℕ
quotient_toward false m n = m / n
quotient_toward true m n = (m + (n - 1)) / n
