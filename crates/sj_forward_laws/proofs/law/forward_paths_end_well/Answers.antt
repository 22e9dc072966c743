use Rattle.sj_forward_laws.proofs.Meanings.{ends_well}
use Rattle.sj_forward_laws.proofs.law.forward_paths_end_well.Goals as goal

pub returns : goal.returns
returns c = ends_well
