use Rattle.std.proofs.Common.{arith}
use Rattle.sj_read.proofs.numeral.judged.Goals as goal

pub returns-then-is_number : goal.returns-then-is_number
returns-then-is_number c = record { number = c.if-is_number.ensures {u = tt}; long = λ more. absurd (omega (arith, more, c.if-bytes-le-LONGEST_KEPT.true)) }

pub returns-in-Wide : goal.returns-in-Wide
returns-in-Wide c = record { number = (c.in-Wide.ensures.value.value, c.in-Wide.ensures.value.spells); long = λ _. c.in-Wide.ensures.value }
