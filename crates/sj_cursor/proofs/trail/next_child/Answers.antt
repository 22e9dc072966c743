use Rattle.sj_cursor.proofs.Trails.{keyed_gives, keyed_fewer}
use Rattle.sj_cursor.proofs.trail.next_child.Goals as goal

pub returns-in-Member-clause-gives : goal.returns-in-Member-clause-gives
returns-in-Member-clause-gives c = keyed_gives _ c.in-Member.key _ _ _ c.in-Member.is c.next_under.ensures.child

pub returns-in-Member-clause-fewer : goal.returns-in-Member-clause-fewer
returns-in-Member-clause-fewer c = keyed_fewer c.in-Member.key.now _ _ _ c.next_under.ensures.child
