use Rattle.std.proofs.Common.{ap, ◌∙◌}
use Rattle.sj_table.specs.Cells.{core}
use Rattle.sj_table.proofs.Whole.{rows_begin, cost_begins}
use Rattle.sj_table.proofs.table.TableCursor.new.Goals as goal

pub returns-clause-left : goal.returns-clause-left
returns-clause-left c = rows_begin _ _ _ _ _ _ _ (ap core c.deref_mut.ensures.value ∙ c.in_ok-cell.ensures) (c.rewind.ensures.whole _ _)

pub returns-clause-due : goal.returns-clause-due
returns-clause-due c = cost_begins _ _ _ _ _ _ _ (ap core c.deref_mut.ensures.value ∙ c.in_ok-cell.ensures) (c.rewind.ensures.due _ _)
