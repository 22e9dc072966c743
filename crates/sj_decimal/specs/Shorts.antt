-- What is read of a number without an exponent, against what numbers are. Private clauses alone cite it.
use Rattle.std.specs.Prelude.{◌≡◌, ℕ, ◌+◌, ◌-◌, ◌≤◌, List, length, take, drop, get_or, Bool, true, false}
use Rattle.std.specs.List.{prefix_len}
use Rattle.std.specs.Str.Parse.{AllDigits, digits_value_after}
use Rattle.sj_decimal.specs.Number.{IsWhole, IsFraction, IsNumber, is_number_byte}

-- the bytes between the two places
abbrev pub between : List ℕ → ℕ → ℕ → List ℕ
between bytes from end = take (end - from) (drop from bytes)

-- the bytes between the two places all may stand in a number
pub record Passes (bytes : List ℕ) (from end : ℕ) : Type 0 where
  pub later : from ≤ end
  pub within : end ≤ length bytes
  pub same : from + prefix_len is_number_byte (drop from bytes) ≡ end + prefix_len is_number_byte (drop end bytes)

-- between the two places stand digits, which write m behind those of n
pub record ReadsDigits (bytes : List ℕ) (from n end m : ℕ) : Type 0 where
  pub passes : Passes bytes from end
  pub digits : AllDigits 10 (between bytes from end)
  pub value : m ≡ digits_value_after 10 n (between bytes from end)

-- between the two places stand the digits before a point, which write m
pub record ReadsWhole (bytes : List ℕ) (from end m : ℕ) : Type 0 where
  pub passes : Passes bytes from end
  pub whole : IsWhole (between bytes from end)
  pub value : m ≡ digits_value_after 10 0 (between bytes from end)

-- between the two places stands a fraction, whose digits write m behind those of n, or nothing
pub record ReadsFraction (bytes : List ℕ) (point n end m : ℕ) : Type 0 where
  pub passes : Passes bytes point end
  pub digits : List ℕ
  pub fraction : IsFraction digits (between bytes point end)
  pub value : m ≡ digits_value_after 10 n digits
  pub places : end - point - 1 ≡ length digits

-- a minus sign stands at the place or not, and the other place is behind it
pub record HasSign (bytes : List ℕ) (at from : ℕ) (negative : Bool) : Type 0 where
  pub minus : negative ≡ true → (get_or bytes at 0 ≡ 45) × (from ≡ at + 1)
  pub plain : negative ≡ false → from ≡ at

-- the bytes from the place up to the first that no number has are a number
pub record ReadsNumber (bytes : List ℕ) (at end : ℕ) : Type 0 where
  pub end_is : end ≡ at + 1 + prefix_len is_number_byte (drop (at + 1) bytes)
  pub number : IsNumber (between bytes at end)
