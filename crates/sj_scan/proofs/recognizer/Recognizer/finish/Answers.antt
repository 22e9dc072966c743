use Rattle.sj_scan.proofs.Wholes.{whole_if}
use Rattle.sj_scan.proofs.recognizer.Recognizer.finish.Goals as goal

pub returns : goal.returns
returns c = λ h e. whole_if h c.args.self.now c.is_whole.result c.is_whole.ensures e
