use Rattle.std.proofs.Common.{arith}
use Rattle.sj_decimal.proofs.OnePass.{fraction_reads}
use Rattle.sj_decimal.proofs.short.fraction_digits.Goals as goal

pub returns-else-end-point-clause-fraction : goal.returns-else-end-point-clause-fraction
returns-else-end-point-clause-fraction c =
    let read = c.more_digits-value in
    fraction_reads c.args.bytes.now c.args.point c.args.whole read.result.1 read.result.0 (omega arith) c.if-bytes-point-ne46.false read.ensures.digits c.if-end-point.false
