-- What a `Significand` says of a number, and one digit more.
use Rattle.std.specs.Prelude.{◌≡◌, ◌≢◌, ℕ, ◌+◌, ◌*◌, ◌%◌, ◌^◌, ◌<◌, ◌≤◌, ◌==◌, nat_lt, if◌then◌else◌}
use Rattle.std.specs.Char.{digit_value}
use Rattle.sj_decimal.specs.Limits.{magnitude_limit}
use Rattle.sj_decimal.specs.declared.significand.Significand.{Significand}
use Rattle.sj_decimal.specs.declared.significand.Significand.TheVariants.{Fits, TooLong}

unfoldable pub with_last_digit : ℕ → ℕ → ℕ → Significand
with_last_digit magnitude zeros digit =
    if nat_lt (magnitude * 10 ^ (zeros + 1) + digit) magnitude_limit then Fits (magnitude * 10 ^ (zeros + 1) + digit) 0 else TooLong

unfoldable pub with_digit : Significand → ℕ → Significand
with_digit TooLong digit = TooLong
with_digit (Fits magnitude zeros) digit =
    if digit == 0 then Fits magnitude (if magnitude == 0 then 0 else zeros + 1) else with_last_digit magnitude zeros digit

abbrev pub with_byte : Significand → ℕ → Significand
with_byte s byte = with_digit s (digit_value byte)

abbrev pub zeros_of : Significand → ℕ
zeros_of TooLong = 0
zeros_of (Fits magnitude zeros) = zeros

-- n has more digits than may be, from the first to one that is not 0
pub record IsTooLong (n : ℕ) : Type 0 where
  pub front : ℕ
  pub places : ℕ
  pub long : magnitude_limit ≤ front
  pub ends : front % 10 ≢ 0
  pub from : front * 10 ^ places ≤ n
  pub below : n < (front + 1) * 10 ^ places

-- the number n of the digits so far, as it is kept
abbrev pub Keeps : ℕ → Significand → Type 0
Keeps n (Fits m z) = (n ≡ m * 10 ^ z) × (m % 10 ≡ 0 → m ≡ 0)
Keeps n TooLong = IsTooLong n
