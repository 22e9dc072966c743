use Rattle.std.proofs.Common.{◌≡◌, ◌<◌, ◌^◌, ◌++◌, ap, arith, rules, refl, min, length}
use Rattle.std.specs.Str.Parse.{digits_value}
use Rattle.sj_decimal.specs.declared.significand.Significand.TheVariants.{Fits, TooLong}
use Rattle.sj_decimal.specs.Significant.{zeros_of, Keeps}
use Rattle.sj_decimal.proofs.Significands.{keeps_steps, too_long_wide}
use Rattle.sj_decimal.proofs.Shifts.{evaluates_value, shift_fits}
use Rattle.sj_decimal.proofs.spelling.Spelling.value.Goals as goal

pub shifted-requires : goal.shifted-requires
shifted-requires c =
    (keeps_steps c.args.self.now.whole.now c.args.self.now.fraction.now c.new.result c.followed_by.result c.followed_by-significand.result (Fits c.in-Fits.magnitude c.in-Fits.zeros)
    c.new.ensures c.followed_by.ensures.value c.followed_by-significand.ensures.value c.in-Fits.is c.requires.whole c.requires.fraction).1

pub returns-in-TooLong-clause-value : goal.returns-in-TooLong-clause-value
returns-in-TooLong-clause-value c =
    too_long_wide c.args.self.now.negative _ _
    (keeps_steps c.args.self.now.whole.now c.args.self.now.fraction.now c.new.result c.followed_by.result c.followed_by-significand.result TooLong
    c.new.ensures c.followed_by.ensures.value c.followed_by-significand.ensures.value c.in-TooLong.is c.requires.whole c.requires.fraction)

pub returns-in-Fits-clause-value : goal.returns-in-Fits-clause-value
returns-in-Fits-clause-value c =
    let kept : Keeps (digits_value 10 (c.args.self.now.whole.now ++ c.args.self.now.fraction.now)) (Fits c.in-Fits.magnitude c.in-Fits.zeros) =
    keeps_steps c.args.self.now.whole.now c.args.self.now.fraction.now c.new.result c.followed_by.result c.followed_by-significand.result (Fits c.in-Fits.magnitude c.in-Fits.zeros)
    c.new.ensures c.followed_by.ensures.value c.followed_by-significand.ensures.value c.in-Fits.is c.requires.whole c.requires.fraction in
    let less : length c.args.self.now.fraction.now < 2 ^ 64 = search rules in
    let before : length c.args.self.now.whole.now < 2 ^ 64 = search rules in
    let none : zeros_of c.new.result ≡ 0 = rw c.new.ensures refl in
    let is : zeros_of c.followed_by-significand.result ≡ c.in-Fits.zeros = ap zeros_of c.in-Fits.is in
    let few : c.in-Fits.zeros < 2 ^ 65 = omega (arith, c.followed_by.ensures.bound, c.followed_by-significand.ensures.bound) in
    evaluates_value c.args.self.now.negative (digits_value 10 (c.args.self.now.whole.now ++ c.args.self.now.fraction.now)) c.in-Fits.magnitude c.in-Fits.zeros (length c.args.self.now.fraction.now)
    c.args.self.now.exponent_negative (digits_value 10 c.args.self.now.exponent.now) _ c.shifted.result
    kept.0 kept.1 few less
    (shift_fits c.args.self.now.exponent_negative (min (digits_value 10 c.args.self.now.exponent.now) (10 ^ 30)) c.in-Fits.zeros (length c.args.self.now.fraction.now) c.exponent.result
    c.exponent.ensures (omega arith) few less)
    c.shifted.ensures.value
