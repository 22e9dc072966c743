use Rattle.sj_plain_path.proofs.Takers.{look_sought}
use Rattle.sj_plain_path.proofs.chain.nodes_below.Goals as goal

pub returns : goal.returns
returns c = look_sought _ _ _ _ _ _ _ c.nothing-gathered.ensures.nodes c.look_short.ensures
