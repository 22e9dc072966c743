use Rattle.sj_plain_path.proofs.chain.look_below.Goals as goal

pub returns : goal.returns
returns c = rw c.found.ensures c.nodes_below.ensures
