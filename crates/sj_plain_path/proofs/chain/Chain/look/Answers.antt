use Rattle.sj_plain_path.proofs.chain.Chain.look.Goals as goal

pub returns : goal.returns
returns c = rw c.deref.ensures.value at c.look_below.ensures
