use Rattle.std.proofs.Common.{◌-◌, ◌≤◌, length}
use Rattle.sj_rows.proofs.numeral.first_point.Given as goal

abbrev pub invariant-loop-at : goal.invariant-loop-at
invariant-loop-at l = l.at ≤ length l.numeral

abbrev pub decreases-loop-at : goal.decreases-loop-at
decreases-loop-at l = length l.numeral - l.at
