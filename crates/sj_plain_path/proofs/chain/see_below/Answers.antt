use Rattle.sj_plain_path.proofs.Takers.{pairing_sought}
use Rattle.sj_plain_path.proofs.chain.see_below.Goals as goal

pub returns : goal.returns
returns c = pairing_sought _ _ _ _ _ _ _ _ (rw c.nothing-gathered.ensures.pairing at c.seek_short.ensures)
