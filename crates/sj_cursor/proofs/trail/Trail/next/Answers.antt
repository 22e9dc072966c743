use Rattle.sj_cursor.proofs.Trails.{roomy_taken, stack_behind}
use Rattle.sj_cursor.proofs.trail.Trail.next.Goals as goal

pub next_in-requires : goal.next_in-requires
next_in-requires c = rw c.deref.ensures.value (roomy_taken _ _ _ _ _ _ c.requires.room c.requires.stacked c.in-Some.ensures.capacity c.in-Some.ensures.items)

pub returns-in-Some-clause-draws : goal.returns-in-Some-clause-draws
returns-in-Some-clause-draws c = rw (stack_behind _ _ _ _ c.in-Some.ensures.items) (rw c.deref.ensures.value at c.next_in.ensures.draws)
