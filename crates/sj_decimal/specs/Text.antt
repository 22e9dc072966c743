-- The text of a decimal.
use Rattle.std.specs.Prelude.{ℕ, zero, suc, ◌+◌, ◌-◌, ◌*◌, ◌/◌, ◌<◌, ◌≤◌, ◌%◌, ◌^◌, List, [], ◌∷◌, ◌++◌, ℤ, pos, ◌*ℤ◌, unsigned_abs, decimal}
use Rattle.std.specs.Fmt.{sign_text}
use Rattle.sj_decimal.specs.Limits.{magnitude_limit}
use Rattle.sj_decimal.specs.Signed.{is_negative}

-- the last k digits of n
unfoldable pub last_digits : ℕ → ℕ → List ℕ
last_digits zero n = []
last_digits (suc k) n = last_digits k (n / 10) ++ ((48 + n % 10) ∷ [])

-- a point and s digits, where s is not 0
abbrev pub decimals_text : ℕ → ℕ → List ℕ
decimals_text zero n = []
decimals_text (suc s) n = 46 ∷ last_digits (suc s) n

-- "-" where the number is negative, the whole part, and the decimals
abbrev pub decimal_text : ℤ × ℕ → List ℕ
decimal_text d = sign_text (is_negative d.0) ++ (decimal (unsigned_abs d.0 / 10 ^ d.1) ++ decimals_text d.1 (unsigned_abs d.0))

-- the same number with this many decimals, where it has at most as many
abbrev pub with_places : ℕ → ℤ × ℕ → ℤ × ℕ
with_places places d = (d.0 *ℤ pos (10 ^ (places - d.1)), places)

-- d, which is in normal form, times 10 ^ places is a whole number below the limit in magnitude
pub record FitsPlaces (places : ℕ) (d : ℤ × ℕ) : Type 0 where
  pub whole : d.1 ≤ places
  pub below : unsigned_abs d.0 * 10 ^ (places - d.1) < magnitude_limit
