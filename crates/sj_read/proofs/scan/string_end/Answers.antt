use Rattle.std.proofs.Common.{arith}
use Rattle.sj_read.proofs.Scanned.{ends_there}
use Rattle.sj_read.proofs.scan.string_end.Goals as goal

pub returns-then-bytes-end-eq34 : goal.returns-then-bytes-end-eq34
returns-then-bytes-end-eq34 c = ends_there c.args.bytes.now c.args.from c.in-Some.end (omega (arith, c.requires.within)) c.in-Some.ensures.0 c.in-Some.ensures.1 c.if-bytes-end-eq34.true
