use Rattle.std.proofs.Common.{ap, ◌∙◌}
use Rattle.sj_table.specs.Rows.{Source}
use Rattle.sj_table.proofs.Entries.{entered_takes}
use Rattle.sj_table.proofs.cells.PathCell.next.Goals as goal

pub returns-in-None-clause-takes : goal.returns-in-None-clause-takes
returns-in-None-clause-takes c =
    rw (c.in-Unasked.is, c.advance-in-None.ensures.stage ∙ c.enter.ensures.stage)
    (entered_takes _ _ _ _ _ _ _ _ _ _ _ _ _ c.in-None.ensures.fault c.enter.ensures.costs (ap (λ (s : Source). s.number) c.enter.ensures.same) c.enter.ensures.ordinal c.enter.ensures.left c.advance-in-None.ensures.takes)
