use Rattle.std.proofs.Common.{◌+◌, arith, refl}
use Rattle.std.specs.Str.Parse.{digits_value_after}
use Rattle.sj_decimal.specs.Shorts.{between}
use Rattle.sj_decimal.proofs.OnePass.{fraction_reads}
use Rattle.sj_read.proofs.numeral.near_fraction_end.Goals as goal

pub returns-then-end-point : goal.returns-then-end-point
returns-then-end-point c =
    let b = c.args.bytes.now in
    let point = c.args.point in
    let end = c.in_ok-end.end in
    let near = c.in_ok-end.ensures {u = tt} in
    let read = near.digits.1 in
    record {
      fraction = λ n. (
        digits_value_after 10 n (between b (point + 1) end),
        fraction_reads b point n end (digits_value_after 10 n (between b (point + 1) end)) c.requires.point.0 c.requires.point.1 (record { passes = read.passes; digits = read.digits; value = refl }) (λ e. omega (arith, e, c.if-end-point.true)),
      );
      within = near.within;
      near = omega (arith, near.near);
    }
