-- A number of decimal digits, read from the left.
use Rattle.std.proofs.Common.{◌≡◌, ℕ, ◌^◌, ◌<◌, ◌≤◌, List, arith}
use Rattle.std.specs.Str.{all_ascii_digits}
use Rattle.sj_decimal.proofs.Powers.{power_le}
use Rattle.sj_file.specs.File.{number_from}

-- so many digits were read, and these are left
pub record Counting (word rest : List ℕ) (i number : ℕ) : Type 0 where
  pub value : number_from 0 word ≡ number_from number rest
  pub digits : all_ascii_digits word ≡ all_ascii_digits rest
  pub small : number < 10 ^ i

pub small_enough : (i number : ℕ) → number < 10 ^ i → i ≤ 6 → number ≤ 999999
small_enough i number small few = omega (arith, small, power_le i 6 few)
