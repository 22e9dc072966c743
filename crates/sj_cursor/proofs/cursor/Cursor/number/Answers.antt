use Rattle.std.proofs.Common.{ap}
use Rattle.sj_item.specs.Items.{item_value}
use Rattle.sj_cursor.specs.Left.{binary_core}
use Rattle.sj_cursor.proofs.Standing.{led_by_cells}
use Rattle.sj_cursor.proofs.cursor.Cursor.number.Goals as goal

pub returns-clause-found : goal.returns-clause-found
returns-clause-found c =
    led_by_cells c.self.inside.path.now _ (item_value c.self.inside.root) c.self.inside.stands _ _ (binary_core c.in-Binary.binary.value) _ _ _ c.in-AtTheBeginning.is
    (rw c.in-Cells.is at (ap (λ q. q.left) c.self.view_is)) (rw (← c.deref_mut.ensures.value, c.in-Binary.is) at (rw c.in-Cells.is at c.self.invariant.means))
    (rw c.deref_mut-2.ensures.value at c.number.ensures.gives)
