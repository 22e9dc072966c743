use Rattle.std.proofs.Common.{◌≤◌, ◌+◌, ◌*◌, ◌%◌, sym, ap, ◌∙◌, arith}
use Rattle.sj_decimal.specs.Significant.{with_digit, zeros_of}
use Rattle.sj_decimal.proofs.Significands.{zeros_with_digit}
use Rattle.sj_decimal.proofs.Divisions.{keeps_next, rest_step}
use Rattle.sj_decimal.proofs.division.quotient_digits.Goals as goal

pub loop-place-preserved : goal.loop-place-preserved
loop-place-preserved c =
    let zeros : zeros_of (with_digit c.loop-place.significand c.next_digit-digit.result.0) ≤ zeros_of c.loop-place.significand + 1 =
    zeros_with_digit c.loop-place.significand c.next_digit-digit.result.0 in (
      keeps_next c.args.left c.args.right c.loop-place._place c.loop-place.rest c.next_digit-digit.result.0 c.loop-place.significand c.with_digit-significand.result
          c.requires.divisor c.loop-place.invariant.1 c.next_digit-digit.ensures.digit c.next_digit-digit.ensures.bound c.loop-place.invariant.0 c.with_digit-significand.ensures,
      c.next_digit-digit.ensures.rest
          ∙ ap (λ k. k * 10 % c.args.right) c.loop-place.invariant.1
          ∙ sym (rest_step c.args.left c.args.right c.loop-place._place c.requires.divisor),
      rw c.with_digit-significand.ensures (omega (arith, zeros, c.loop-place.invariant.2)),
    )
