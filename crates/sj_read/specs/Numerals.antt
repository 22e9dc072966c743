-- What stands between two places of a number without an exponent. Private clauses alone cite it.
use Rattle.std.specs.Prelude.{◌≡◌, ℕ, ◌+◌, ◌<◌, ◌≤◌, List, length, drop, get_or, true}
use Rattle.std.specs.Char.{is_ascii_digit}
use Rattle.std.specs.List.{prefix_len}
use Rattle.sj_decimal.specs.Number.{IsNumber, SpellsExact, begins_number, is_number_byte}
use Rattle.sj_doc.specs.Nodes.{IsNumeral, longest_kept}
use Rattle.sj_read.specs.declared.numeral.Numeral.{Numeral}
use Rattle.sj_read.specs.declared.numeral.Numeral.TheVariants.{Kept, Exact, NotNumber}
use Rattle.sj_decimal.specs.Shorts.{ReadsDigits, ReadsWhole, ReadsFraction, ReadsNumber}

-- digits
abbrev pub HasDigits : List ℕ → ℕ → ℕ → Type 0
HasDigits bytes from end = (m : ℕ) × ReadsDigits bytes from 0 end m

-- the digits before a point
abbrev pub HasWhole : List ℕ → ℕ → ℕ → Type 0
HasWhole bytes from end = (m : ℕ) × ReadsWhole bytes from end m

-- a fraction, or nothing
abbrev pub HasFraction : List ℕ → ℕ → ℕ → Type 0
HasFraction bytes point end = (n : ℕ) → (m : ℕ) × ReadsFraction bytes point n end m

-- a point
abbrev pub HasPoint : List ℕ → ℕ → Type 0
HasPoint bytes point = (point < length bytes) × (get_or bytes point 0 ≡ 46)

-- digits, or nothing, that end within 16 bytes and before the end of all
pub record EndsNear (bytes : List ℕ) (from end : ℕ) : Type 0 where
  pub digits : HasDigits bytes from end
  pub first : from < end → is_ascii_digit (get_or bytes from 0) ≡ true
  pub within : end < length bytes
  pub near : end < from + 16

-- a fraction whose digits do
pub record EndsFraction (bytes : List ℕ) (point end : ℕ) : Type 0 where
  pub fraction : HasFraction bytes point end
  pub within : end < length bytes
  pub near : end < point + 17

-- a number without a sign and an exponent, which is not long
pub record IsUnsigned (bytes : List ℕ) (from end : ℕ) : Type 0 where
  pub point : ℕ
  pub whole : HasWhole bytes from point
  pub fraction : HasFraction bytes point end
  pub stops : prefix_len is_number_byte (drop end bytes) ≡ 0
  pub first : is_ascii_digit (get_or bytes from 0) ≡ true
  pub near : end < from + 63

-- a number that begins with the byte c, and whose text is kept
pub record IsPlainNumber (bytes : List ℕ) (at c end : ℕ) : Type 0 where
  pub begins : begins_number c ≡ true
  pub reads : ReadsNumber bytes at end
  pub short : end ≤ at + longest_kept

abbrev pub Tells : List ℕ → Numeral → Type 0
Tells b Kept = IsNumeral b
Tells b (Exact d) = SpellsExact b d
Tells b NotNumber = IsNumber b → ⊥
