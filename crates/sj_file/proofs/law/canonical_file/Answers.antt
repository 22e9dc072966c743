use Rattle.sj_file.proofs.ShownAgain.{canonical}
use Rattle.sj_file.proofs.law.canonical_file.Goals as goal

pub returns : goal.returns
returns c = canonical
