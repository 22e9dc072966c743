use Rattle.sj_page.proofs.Printing.{prints_on}
use Rattle.sj_stream.proofs.turns.hand_on.Goals as goal

pub returns-in-Ok-clause-prints : goal.returns-in-Ok-clause-prints
returns-in-Ok-clause-prints g c = λ job bytes took. prints_on _ _ _ _ _ (c.in-Ok.ensures.prints job bytes took) c.write.ensures.prints
