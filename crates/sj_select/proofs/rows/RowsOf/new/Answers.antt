use Rattle.sj_select.proofs.rows.RowsOf.new.Goals as goal

pub invariant_of-result : goal.invariant_of-result
invariant_of-result c = (c.rewind.ensures.ready, c.rewind.ensures.is_for _ c.in-Ok.ensures.is_for)

pub returns-in-Ok-clause-left : goal.returns-in-Ok-clause-left
returns-in-Ok-clause-left c = c.rewind.ensures.left _ c.in-Ok.ensures.is_for

pub returns-in-Ok-clause-due : goal.returns-in-Ok-clause-due
returns-in-Ok-clause-due c = c.rewind.ensures.due _ c.in-Ok.ensures.is_for
