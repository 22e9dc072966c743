use Rattle.std.proofs.Common.{length}
use Rattle.sj_batch.specs.Batch.{ReadFront}
use Rattle.sj_batch.proofs.batch.Batch.read_on.Given as goal

-- the lines that were read so far
abbrev pub invariant-loop-alloc : goal.invariant-loop-alloc
invariant-loop-alloc l = ReadFront l.keys l.fn.waiting l.waiting l.self.lines.items

abbrev pub decreases-loop-alloc : goal.decreases-loop-alloc
decreases-loop-alloc l = length l.waiting.waiting
