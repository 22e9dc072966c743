use Rattle.sj_run.proofs.Scanning.{did_scan}
use Rattle.sj_run.proofs.scan.scan.Goals as goal

pub returns-clause-ran : goal.returns-clause-ran
returns-clause-ran g c = λ shelf. did_scan shelf _ _ _ _ _ _ _ c.in-Ok.ensures.taken c.stream.ensures
