use Rattle.std.proofs.Common.{arith}
use Rattle.sj_read.proofs.Runs.{no_plain_behind, plain_inside}
use Rattle.sj_read.proofs.plain.plain_end.Goals as goal

pub returns-then-text-from-lt16-clause-value : goal.returns-then-text-from-lt16-clause-value
returns-then-text-from-lt16-clause-value c =
    let none = no_plain_behind c.args.text.now c.args.from c.requires.feeds c.requires.within (omega (arith, c.if-text-from-lt16.true)) in
    omega (arith, none)

pub far_end-requires-clause-within : goal.far_end-requires-clause-within
far_end-requires-clause-within c = plain_inside c.args.text.now c.args.from c.requires.feeds (omega (arith, c.in-None.ensures)) (omega (arith, c.if-text-from-lt16.false))
