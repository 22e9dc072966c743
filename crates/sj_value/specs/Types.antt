-- Which types an item can be cast to.
use Rattle.std.specs.Prelude.{ℕ, ◌≤◌}
use Rattle.sj_decimal.specs.Limits.{max_digits}
use Rattle.sj_value.specs.declared.types.SqlType.{SqlType}
use Rattle.sj_value.specs.declared.types.SqlType.TheVariants.{Varchar, VarcharMax, Numeric, NumericFixed, Integer, Bigint, Boolean}

-- NUMERIC(p, s) has one digit at least, no more than an exact number may have, and of them at most all are decimals
pub record AreDigits (p s : ℕ) : Type 0 where
  pub some : 1 ≤ p
  pub few : p ≤ max_digits
  pub decimals : s ≤ p

abbrev pub IsCastType : SqlType → Type 0
IsCastType Varchar = Unit {0}
IsCastType (VarcharMax n) = Unit {0}
IsCastType Numeric = Unit {0}
IsCastType (NumericFixed p s) = AreDigits p s
IsCastType Integer = Unit {0}
IsCastType Bigint = Unit {0}
IsCastType Boolean = Unit {0}
