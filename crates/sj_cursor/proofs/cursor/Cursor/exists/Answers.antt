use Rattle.std.proofs.Common.{◌∙◌}
use Rattle.sj_cursor.proofs.Looks.{exists_answers, exists_price}
use Rattle.sj_cursor.proofs.cursor.Cursor.exists.Goals as goal

pub returns-clause-answers : goal.returns-clause-answers
returns-clause-answers c = c.exists_or_fault.ensures ∙ exists_answers _ _ _ _ _ (rw (c.of_exists.ensures, c.mode.ensures) at c.look-look.ensures.finds)

pub returns-clause-costs : goal.returns-clause-costs
returns-clause-costs c = exists_price _ _ _ _ _ (rw (c.of_exists.ensures, c.mode.ensures) at c.look-look.ensures.finds)
