use Rattle.std.proofs.Common.{◌-◌, ◌≤◌, length}
use Rattle.sj_text.proofs.Numerals.{IsGrown}
use Rattle.sj_text.proofs.numeral.whole_end.Given as goal

abbrev pub invariant-loop-end : goal.invariant-loop-end
invariant-loop-end l = IsGrown l.end l.numeral × (l.end ≤ length l.numeral)

abbrev pub decreases-loop-end : goal.decreases-loop-end
decreases-loop-end l = length l.numeral - l.end
