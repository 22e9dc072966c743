use Rattle.sj_plain_path.proofs.chain.Chain.nodes.Goals as goal

pub returns : goal.returns
returns c = rw c.deref.ensures.value at c.nodes_below.ensures
