-- Numerals that are the fields of their numbers. Private clauses alone cite them.
use Rattle.std.specs.Prelude.{◌≡◌, ◌≢◌, ℕ, ◌+◌, ◌<◌, ◌≤◌, ◌^◌, List, ◌∷◌, length, take, slice_index, pos, Ok}
use Rattle.std.specs.Char.{IsAsciiDigit}
use Rattle.sj_decimal.specs.Text.{decimal_text}
use Rattle.sj_value.specs.Casts.{Cast}
use Rattle.sj_value.specs.declared.value.SqlValue.{SqlValue}
use Rattle.sj_rows.specs.RowText.{field, tabbed}

-- a window of so many bytes has room for a TAB and for all numerals that are copied
abbrev pub room : ℕ
room = 24

-- the most digits of a number that is copied
abbrev pub most_digits : ℕ
most_digits = 18

-- at the front of the window stand a TAB and the bytes
pub record HasFront (bytes window : List ℕ) : Type 0 where
  pub fits : length bytes + 1 ≤ length window
  pub front : take (length bytes + 1) window ≡ 9 ∷ bytes

-- each byte is a digit, but for the one at the point
abbrev pub HasDigits : ℕ → List ℕ → Type 0
HasDigits point bytes = (k : ℕ) → k < length bytes → k ≢ point → IsAsciiDigit (slice_index bytes k)

-- the bytes are the text of a number with so many decimals, which has at most so many digits
pub record IsTextOf (digits places : ℕ) (bytes : List ℕ) : Type 0 where
  pub number : ℕ
  pub text : bytes ≡ decimal_text (pos number, places)
  pub small : number < 10 ^ digits

-- the cast gives a value whose field these bytes are
pub record GivesField (cast : Cast) (bytes : List ℕ) : Type 0 where
  pub value : SqlValue
  pub is : cast ≡ Ok value
  pub printed : field value ≡ bytes

-- the cast gives a value whose field is the numeral, and that stands behind a TAB at the front of the window
pub record IsFieldOf (cast : Cast) (numeral window : List ℕ) : Type 0 where
  pub value : SqlValue
  pub is : cast ≡ Ok value
  pub fits : length numeral + 1 ≤ length window
  pub front : take (length numeral + 1) window ≡ tabbed value

-- the cast gives a value whose field so many bytes at the front of the window are, with room for a TAB
pub record StandsAsField (cast : Cast) (len : ℕ) (window : List ℕ) : Type 0 where
  pub value : SqlValue
  pub is : cast ≡ Ok value
  pub whole : length window ≡ 16
  pub short : len < 16
  pub front : take len window ≡ field value
