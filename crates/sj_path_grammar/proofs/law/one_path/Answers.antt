use Rattle.sj_path_grammar.proofs.Acceptance.{path_accepted, accepted_is}
use Rattle.sj_path_grammar.proofs.law.one_path.Goals as goal

pub returns : goal.returns
returns c = λ text p. (path_accepted text p, accepted_is text p)
