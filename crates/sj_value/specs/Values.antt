-- Which values can be printed.
use Rattle.std.specs.Prelude.{ℕ, ◌<◌, ◌≤◌, ℤ}
use Rattle.sj_decimal.specs.Limits.{max_scale}
use Rattle.sj_decimal.specs.Text.{FitsPlaces}
use Rattle.sj_value.specs.declared.value.SqlValue.{SqlValue}
use Rattle.sj_value.specs.declared.value.SqlValue.TheVariants.{Null, Text, Num, Bool, Json}

-- the number times 10 ^ k is whole and below the limit in magnitude
pub record HasPlaces (d : ℤ × ℕ) (k : ℕ) : Type 0 where
  pub few : k ≤ max_scale
  pub fits : FitsPlaces k d

-- a number has as many decimals as it is to print; with 0 it prints its plain text
abbrev pub IsPrintable : SqlValue → Type 0
IsPrintable Null = Unit {0}
IsPrintable (Text s) = Unit {0}
IsPrintable (Num d k) = 0 < k → HasPlaces d k
IsPrintable (Bool b) = Unit {0}
IsPrintable (Json s) = Unit {0}
