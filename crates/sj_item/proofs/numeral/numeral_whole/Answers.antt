use Rattle.std.proofs.Common.{◌≡◌, get_or, true, arith, sym, ◌∙◌}
use Rattle.std.specs.Char.{is_ascii_digit}
use Rattle.sj_decimal.proofs.Digits.{digit_byte, digit_passed}
use Rattle.sj_decimal.proofs.OnePass.{digits_more}
use Rattle.sj_item.proofs.Wholes.{digits_spell}
use Rattle.sj_item.proofs.numeral.numeral_whole.Goals as goal

pub loop-at-preserved : goal.loop-at-preserved
loop-at-preserved c =
    let l = c.loop-at in
    let b = get_or c.args.numeral.now l.at 0 in
    let yes : is_ascii_digit b ≡ true = sym c.is_ascii_digit.ensures.value ∙ c.if-is_ascii_digit.true in
    record {
      digits = digits_more c.args.numeral.now 0 0 l.at l.value l.invariant.digits (omega (arith, c.loop-at-test.true)) yes;
      small = omega (arith, (digit_byte b (digit_passed b yes)).high, c.if-value-lt-TAKES_A_DIGIT.true);
    }

pub returns : goal.returns
returns c =
    let r = c.loop-at.invariant.digits in
    digits_spell c.args.numeral.now c.loop-at.at c.loop-at.value r c.loop-at.invariant.small (omega (arith, c.if-at-numeral.false)) c.if-at-eq0.false
    (λ more. c.leads_with_zero.ensures c.if-leads_with_zero.false (omega (arith, more, r.passes.within)))
