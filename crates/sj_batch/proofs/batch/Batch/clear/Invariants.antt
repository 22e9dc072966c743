use Rattle.std.proofs.Common.{length}
use Rattle.sj_batch.proofs.batch.Batch.clear.Given as goal

abbrev pub invariant-loop-line : goal.invariant-loop-line
invariant-loop-line l = Unit {0}

abbrev pub decreases-loop-line : goal.decreases-loop-line
decreases-loop-line l = length l.self.lines.items
