-- The texts of decimals. Private clauses alone cite them.
use Rattle.std.specs.Prelude.{◌≡◌, ℕ, ◌<◌, ◌^◌, List, ℤ, decimal}
use Rattle.sj_decimal.specs.Normal.{IsDecimal}
use Rattle.sj_decimal.specs.Text.{decimal_text}

-- the greatest length of a numeral that is looked at
abbrev pub longest_short : ℕ
longest_short = 19

-- b is the text of a whole number, which has k digits at most
pub record IsWholeText (k : ℕ) (b : List ℕ) : Type 0 where
  pub number : ℕ
  pub text : b ≡ decimal number
  pub small : number < 10 ^ k

-- b is the text of a decimal
pub record IsDecimalText (b : List ℕ) : Type 0 where
  pub value : ℤ × ℕ
  pub made : IsDecimal value
  pub text : decimal_text value ≡ b
