use Rattle.sj_cursor.proofs.PlainPaths.{plain_finds}
use Rattle.sj_cursor.proofs.cursor.Cursor.look.Goals as goal

pub returns-in-AtTheBeginning-Some-Node-clause-finds : goal.returns-in-AtTheBeginning-Some-Node-clause-finds
returns-in-AtTheBeginning-Some-Node-clause-finds c =
    rw (← c.self.view_is, c.in-AtTheBeginning-Some-Node.is-0, c.in-AtTheBeginning-Some-Node.is-2)
    (plain_finds _ _ _ _ _ _ _ _ (rw c.in-AtTheBeginning-Some-Node.is-1 at c.self.invariant.chains) c.look.ensures)
