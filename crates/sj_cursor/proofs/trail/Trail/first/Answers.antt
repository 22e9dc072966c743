use Rattle.sj_cursor.proofs.Trails.{first_item, first_end, first_within}
use Rattle.sj_cursor.proofs.trail.Trail.first.Goals as goal

pub returns-in-Item-clause-draws : goal.returns-in-Item-clause-draws
returns-in-Item-clause-draws c = first_item _ _ _ _ _ _ (rw c.deref.ensures.value at c.in-Item.ensures.leads) c.clear.ensures.items

pub returns-in-Nothing-clause-draws : goal.returns-in-Nothing-clause-draws
returns-in-Nothing-clause-draws c = first_end _ _ _ _ _ (rw c.deref.ensures.value at c.in-Nothing.ensures.leads) c.clear.ensures.items

pub returns-in-Children-clause-draws : goal.returns-in-Children-clause-draws
returns-in-Children-clause-draws c =
    first_within c.args.self.now.moves.items c.in-Children.at _ _ _ _ _ _ _ _ _ (rw c.deref.ensures.value at c.in-Children.ensures.leads) c.children.ensures c.clear.ensures.items
    (rw c.deref-in-Children.ensures.value at c.next_in.ensures.draws)
