use Rattle.std.proofs.Common.{sym}
use Rattle.sj_step.proofs.Traces.{join-stop}
use Rattle.sj_cursor.proofs.cells.Parts.+reset.Goals as goal

pub returns-in-Only-clause-whole : goal.returns-in-Only-clause-whole
returns-in-Only-clause-whole t c env x = rw c.in-Only.is (sym (join-stop _))
