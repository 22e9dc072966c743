use Rattle.std.proofs.Common.{◌≡◌, ◌-◌, ◌≤◌, ℕ, ◌<◌, length, true, get_or}
use Rattle.std.specs.Char.{is_ascii_digit}
use Rattle.sj_decimal.proofs.spelling.split_digits.Given as goal

abbrev pub invariant-loop-count : goal.invariant-loop-count
invariant-loop-count l = (l.count ≤ length l.bytes) × ((k : ℕ) → k < l.count → is_ascii_digit (get_or l.bytes k 0) ≡ true)

abbrev pub decreases-loop-count : goal.decreases-loop-count
decreases-loop-count l = length l.bytes - l.count
