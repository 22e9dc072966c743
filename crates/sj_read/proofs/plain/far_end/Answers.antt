use Rattle.std.proofs.Common.{arith}
use Rattle.sj_read.proofs.Runs.{plain_inside}
use Rattle.sj_read.proofs.plain.far_end.Goals as goal

pub steps-preserved : goal.steps-preserved
steps-preserved c =
    (omega (arith, c.steps.invariant.0, c.in-None.ensures), plain_inside c.args.text.now c.steps.at c.requires.feeds (omega (arith, c.in-None.ensures)) (omega (arith, c.steps.invariant.1)))
