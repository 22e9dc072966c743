use Rattle.sj_scan.proofs.Begins.{begins_if}
use Rattle.sj_scan.proofs.recognizer.Recognizer.begins.Goals as goal

pub returns : goal.returns
returns c = λ h e. begins_if h c.args.self.now c.is_live.result c.is_live.ensures e
