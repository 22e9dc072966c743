use Rattle.std.proofs.Common.{sym}
use Rattle.sj_cursor.specs.Left.{operand_core, doing}
use Rattle.sj_cursor.proofs.Operators.{begun_is}
use Rattle.sj_cursor.proofs.cells.Each.rewind_to_root.Goals as goal

pub returns-clause-whole : goal.returns-clause-whole
returns-clause-whole c = λ h.
    rw (c.take.ensures.begun h, c.take.ensures.same, c.take_root.ensures.left c.if-not-take_root.false)
    (begun_is (doing c.args.self.now.operator) (operand_core c.args.self.now.input) _ _ (rw (sym c.opening.ensures, c.in-Unwrapped.is) (c.take_root.ensures.whole c.if-not-take_root.false)))
