use Rattle.std.proofs.Common.{arith}
use Rattle.sj_scan.proofs.Steps.{one_at_front}
use Rattle.sj_scan.proofs.recognizer.Recognizer.advance.Goals as goal

pub returns : goal.returns
returns c = (
  one_at_front c.args.self.now c.skim-run.new.self c.take.new.self c.args.bytes.now c.skim-run.result (omega arith) c.requires c.skim-run.ensures.taken c.in_ok-take.ensures,
  omega arith,
  omega arith,
)
