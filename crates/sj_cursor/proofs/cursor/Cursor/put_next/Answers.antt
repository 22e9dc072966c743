use Rattle.std.proofs.Common.{ap}
use Rattle.sj_item.specs.Items.{item_value}
use Rattle.sj_cursor.proofs.Standing.{drawn_by_cells, drawn_by_trail}
use Rattle.sj_cursor.proofs.cursor.Cursor.put_next.Goals as goal

pub returns-in-Trail-clause-answers : goal.returns-in-Trail-clause-answers
returns-in-Trail-clause-answers c =
    drawn_by_trail c.self.inside.path.now _ (item_value c.self.inside.root) c.self.inside.stands _ _ _ _ _ c.next_on.ensures.stands c.in-Trail.trail _ _
    (rw c.in-Trail.is at (ap (λ q. q.left) c.self.view_is)) (rw c.in-Trail.is at c.self.invariant.means) c.next_on.ensures.answers

pub returns-in-Cells-clause-answers : goal.returns-in-Cells-clause-answers
returns-in-Cells-clause-answers c =
    drawn_by_cells c.self.inside.path.now _ (item_value c.self.inside.root) c.self.inside.stands _ _ _ _ _ c.next_of.ensures.stands _ _ _
    (rw c.in-Cells.is at (ap (λ q. q.left) c.self.view_is)) (rw c.in-Cells.is at c.self.invariant.means) (rw c.deref_mut.ensures.value at c.next_of.ensures.answers)
