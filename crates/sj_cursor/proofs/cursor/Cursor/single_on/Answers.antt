use Rattle.std.proofs.Common.{◌∙◌}
use Rattle.sj_cursor.proofs.Looks.{single_answer, single_price}
use Rattle.sj_cursor.proofs.MadeNumbers.{made_is_single, made_price}
use Rattle.sj_cursor.proofs.cursor.Cursor.single_on.Goals as goal

pub returns-in-Some-clause-answers : goal.returns-in-Some-clause-answers
returns-in-Some-clause-answers c = c.single_number.ensures ∙ made_is_single _ _ _ _ c.in-Some.ensures.found _ _

pub returns-in-Some-clause-costs : goal.returns-in-Some-clause-costs
returns-in-Some-clause-costs c = made_price _ _ _ _ c.in-Some.ensures.found _

pub returns-clause-answers : goal.returns-clause-answers
returns-clause-answers c = c.single_or_fault.ensures ∙ single_answer _ _ _ _ _ _ (rw (c.requires, c.in_default.ensures.found.0) at c.look_on.ensures.finds)

pub returns-clause-costs : goal.returns-clause-costs
returns-clause-costs c = single_price _ _ _ _ _ (rw (c.requires, c.in_default.ensures.found.0, c.in_default.ensures.found.1) at c.look_on.ensures.finds)
