use Rattle.std.proofs.Common.{◌<◌, arith, length}
use Rattle.sj_batch.proofs.WaitingLines.{read_some}
use Rattle.sj_batch.proofs.batch.Batch.read_on.Goals as goal

pub returns : goal.returns
returns c =
    let some : 0 < length c.loop-alloc.self.lines.items = omega arith in
    read_some _ _ _ _ c.loop-alloc.invariant some
