use Rattle.std.proofs.Common.{◌≤◌, ◌+◌, ◌*◌, ◌^◌, sym, arith, le-ltb}
use Rattle.std.proofs.lemmas.Bool.{cond-false}
use Rattle.sj_decimal.specs.Limits.{magnitude_limit}
use Rattle.sj_decimal.specs.Significant.{with_last_digit}
use Rattle.sj_decimal.proofs.Powers.{scaled_too_far}
use Rattle.sj_decimal.proofs.significand.with_last_digit.Goals as goal

pub returns-then-zeros : goal.returns-then-zeros
unfolding with_last_digit
returns-then-zeros c =
    let far : magnitude_limit ≤ c.args.magnitude * 10 ^ (c.args.zeros + 1) =
    scaled_too_far c.args.magnitude (c.args.zeros + 1) (omega (arith, c.if-magnitude-eq0.false)) (omega arith) in
    let past : magnitude_limit ≤ c.args.magnitude * 10 ^ (c.args.zeros + 1) + c.args.digit = omega (arith, far) in
    sym (cond-false _ _ _ (le-ltb (c.args.magnitude * 10 ^ (c.args.zeros + 1) + c.args.digit) magnitude_limit past))
