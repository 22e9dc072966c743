use Rattle.std.proofs.Common.{arith}
use Rattle.sj_table.proofs.Entries.{advance_item, advance_end, advance_fault}
use Rattle.sj_table.proofs.cells.PathCell.advance.Goals as goal

pub returns-in-Item-clause-takes : goal.returns-in-Item-clause-takes
returns-in-Item-clause-takes c = advance_item _ _ _ _ _ _ _ _ c.in-Item.ensures.answers (omega (arith, c.saturating_add-self.ensures))

pub returns-in-End-clause-takes : goal.returns-in-End-clause-takes
returns-in-End-clause-takes c = advance_end _ _ _ _ _ _ _ _ _ c.in-End.ensures.answers

pub returns-in-Fault-clause-takes : goal.returns-in-Fault-clause-takes
returns-in-Fault-clause-takes c = advance_fault _ _ _ _ _ _ _ _ _ _ c.in-Fault.ensures.answers
