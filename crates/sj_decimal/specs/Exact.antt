-- Whether a number is exact, as a question with an answer.
use Rattle.std.specs.Prelude.{ℕ, Bool, ◌&&◌, nat_le, ℤ}
use Rattle.sj_decimal.specs.Limits.{max_scale}
use Rattle.sj_decimal.specs.Normal.{normal}
use Rattle.sj_decimal.specs.Arithmetic.{is_below_limit}

-- its normal form is within the limits
unfoldable pub is_exact : ℤ × ℕ → Bool
is_exact v = is_below_limit (normal v).0 && nat_le (normal v).1 max_scale
