use Rattle.std.proofs.Common.{◌≡◌, get_or, true, arith, sym, ◌∙◌}
use Rattle.std.specs.Char.{is_ascii_digit}
use Rattle.sj_decimal.proofs.Digits.{digit_byte, digit_passed}
use Rattle.sj_decimal.proofs.OnePass.{digits_more}
use Rattle.sj_decimal.proofs.short.more_digits.Goals as goal

pub loop-at-preserved : goal.loop-at-preserved
loop-at-preserved c =
    let l = c.loop-at in
    let b = get_or c.args.bytes.now l.at 0 in
    let yes : is_ascii_digit b ≡ true = sym c.is_ascii_digit.ensures.value ∙ c.if-is_ascii_digit.true in
    record {
      digits = digits_more c.args.bytes.now c.args.from c.args.before l.at l.value l.invariant.digits (omega (arith, c.loop-at-test.true)) yes;
      small = omega (arith, (digit_byte b (digit_passed b yes)).high, c.if-value-lt-TAKES_A_DIGIT.true);
    }
