use Rattle.sj_forward_laws.proofs.Walked.{walked}
use Rattle.sj_forward_laws.proofs.law.walk_is_all_reached.Goals as goal

pub returns : goal.returns
returns c = walked
