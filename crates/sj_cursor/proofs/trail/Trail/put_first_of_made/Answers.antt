use Rattle.sj_cursor.proofs.Trails.{first_item, first_end, leads_draws}
use Rattle.sj_cursor.proofs.trail.Trail.put_first_of_made.Goals as goal

pub returns-in-Item-clause-draws : goal.returns-in-Item-clause-draws
returns-in-Item-clause-draws c = first_item _ _ _ _ _ _ (rw c.deref.ensures.value at c.in-Item.ensures.leads) c.clear.ensures.items

pub returns-in-Nothing-clause-draws : goal.returns-in-Nothing-clause-draws
returns-in-Nothing-clause-draws c = first_end _ _ _ _ _ (rw c.deref.ensures.value at c.in-Nothing.ensures.leads) c.clear.ensures.items

pub returns-in-Node-clause-draws : goal.returns-in-Node-clause-draws
returns-in-Node-clause-draws c = rw c.put_node.ensures (leads_draws _ _ _ _ _ _ _ (rw c.deref.ensures.value at c.in-Node.ensures.leads) c.first.ensures.draws)
