use Rattle.std.proofs.Common.{◌+◌, refl, arith}
use Rattle.std.specs.Str.Parse.{digits_value_after}
use Rattle.sj_decimal.specs.Shorts.{between}
use Rattle.sj_decimal.proofs.OnePass.{no_fraction, fraction_reads}
use Rattle.sj_read.proofs.numeral.fraction_end.Goals as goal

pub returns-then-point-bytes : goal.returns-then-point-bytes
returns-then-point-bytes c = λ n. (n, no_fraction c.args.bytes.now c.args.point n c.requires)

pub returns-else-end-point : goal.returns-else-end-point
returns-else-end-point c =
    let b = c.args.bytes.now in
    let from = c.args.point + 1 in
    let end = c.digits_end-end.result in
    let read = c.digits_end-end.ensures.digits.1 in
    λ n. (
      digits_value_after 10 n (between b from end),
      fraction_reads b c.args.point n end (digits_value_after 10 n (between b from end)) (omega arith) c.if-bytes-point-ne46.false (record { passes = read.passes; digits = read.digits; value = refl }) c.if-end-point.false,
    )
