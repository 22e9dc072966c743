use Rattle.std.proofs.Common.{◌-◌, ◌<◌, ◌^◌, length}
use Rattle.sj_decimal.specs.Shorts.{ReadsDigits}
use Rattle.sj_decimal.proofs.short.more_digits.Given as goal

abbrev pub invariant-loop-at : goal.invariant-loop-at
invariant-loop-at l = record { digits : ReadsDigits l.bytes l.from l.before l.at l.value; small : l.value < 10 ^ 18 }

abbrev pub decreases-loop-at : goal.decreases-loop-at
decreases-loop-at l = length l.bytes - l.at
