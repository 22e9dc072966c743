use Rattle.std.proofs.Common.{arith}
use Rattle.sj_read.proofs.Escapes.{letter_read}
use Rattle.sj_read.proofs.escape.letter.Goals as goal

pub returns : goal.returns
returns c = letter_read c.args.byte (omega (arith, c.ranges.byte.fits))
