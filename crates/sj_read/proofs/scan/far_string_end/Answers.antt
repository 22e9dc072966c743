use Rattle.std.proofs.Common.{arith}
use Rattle.sj_read.proofs.Scanned.{ends_there}
use Rattle.sj_read.proofs.scan.far_string_end.Goals as goal

pub returns-then-bytes-end-eq34 : goal.returns-then-bytes-end-eq34
returns-then-bytes-end-eq34 c = ends_there c.args.bytes.now c.args.from c.far_end-end.result (omega (arith, c.requires.within)) c.far_end-end.ensures.value (omega arith) c.if-bytes-end-eq34.true
