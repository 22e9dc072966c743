use Rattle.std.proofs.Common.{◌∙◌, arith}
use Rattle.sj_read.proofs.Escapes.{digit_read}
use Rattle.sj_read.proofs.escape.digit.Goals as goal

pub returns : goal.returns
returns c = c.from.ensures ∙ digit_read c.args.byte (omega (arith, c.ranges.byte.fits))
