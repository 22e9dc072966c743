use Rattle.std.proofs.Common.{◌-◌, ◌<◌, ◌^◌, length}
use Rattle.sj_decimal.specs.Shorts.{ReadsDigits}
use Rattle.sj_item.proofs.numeral.numeral_whole.Given as goal

abbrev pub invariant-loop-at : goal.invariant-loop-at
invariant-loop-at l = record { digits : ReadsDigits l.numeral 0 0 l.at l.value; small : l.value < 10 ^ 18 }

abbrev pub decreases-loop-at : goal.decreases-loop-at
decreases-loop-at l = length l.numeral - l.at
