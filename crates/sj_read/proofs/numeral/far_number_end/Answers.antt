use Rattle.std.proofs.Common.{arith}
use Rattle.sj_read.proofs.numeral.far_number_end.Goals as goal

pub overflow_sub-end : goal.overflow_sub-end
overflow_sub-end c = omega (arith, (c.in_ok-end.ensures {u = tt} 0).1.passes.later, c.digits_end-point.ensures.digits.1.passes.later)

pub goes_on_before_the_end-requires : goal.goes_on_before_the_end-requires
goes_on_before_the_end-requires c = (c.in_ok-end.ensures {u = tt} 0).1.passes.within

pub returns : goal.returns
returns c =
    let digits = c.digits_end-point.ensures in
    let whole = c.is_whole.ensures in
    let fraction = c.in_ok-end.ensures {u = tt} in
    record {
      point = c.digits_end-point.result;
      whole = whole.whole c.if-not-is_whole.false;
      fraction = fraction;
      stops = c.goes_on_before_the_end.ensures c.if-goes_on_before_the_end.false;
      first = digits.first (whole.some c.if-not-is_whole.false);
      near = omega (arith, c.if-end-from-gt-MOST_KEPT.false, (fraction 0).1.passes.later, digits.digits.1.passes.later);
    }
