use Rattle.std.proofs.Common.{arith}
use Rattle.sj_file.proofs.Digits.{small_enough}
use Rattle.sj_file.proofs.file.number_of.Goals as goal

pub returns-clause-small : goal.returns-clause-small
returns-clause-small c = small_enough c.loop-digit.digit-index c.loop-digit.number c.loop-digit.invariant.counting.small (omega arith)
