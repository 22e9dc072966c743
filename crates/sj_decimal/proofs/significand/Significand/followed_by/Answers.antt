use Rattle.std.proofs.Common.{◌≤◌, ◌+◌, ◌-◌, sym, ap, ◌∙◌, arith, get_or}
use Rattle.std.proofs.lemmas.List.Sums.{fold_more}
use Rattle.sj_decimal.specs.Significant.{with_byte, with_digit, zeros_of}
use Rattle.sj_decimal.proofs.Digits.{IsDigitByte, digit_byte_at}
use Rattle.sj_decimal.proofs.Significands.{zeros_with_digit}
use Rattle.sj_decimal.proofs.significand.Significand.followed_by.Goals as goal

is_digit : (c : goal.After-row_known-1) → IsDigitByte (get_or c.args.digits.now c.loop-byte.byte-index 0)
is_digit c = digit_byte_at c.args.digits.now c.loop-byte.byte-index c.requires.digits c.loop-byte-test.true

pub overflow_sub-byte : goal.overflow_sub-byte
overflow_sub-byte c = (is_digit c).low

pub with_digit-significand-requires-clause-digit :
    goal.with_digit-significand-requires-clause-digit
with_digit-significand-requires-clause-digit c = let d = is_digit c in omega (arith, d.high)

pub loop-byte-preserved : goal.loop-byte-preserved
loop-byte-preserved c =
    let d : IsDigitByte (get_or c.args.digits.now c.loop-byte.byte-index 0) =
    digit_byte_at c.args.digits.now c.loop-byte.byte-index c.requires.digits c.loop-byte-test.true in
    let more = fold_more with_byte c.args.self c.args.digits.now c.loop-byte.byte-index 0 c.loop-byte-test.true in
    let one : zeros_of (with_digit c.loop-byte.significand (get_or c.args.digits.now c.loop-byte.byte-index 0 - 48)) ≤ zeros_of c.loop-byte.significand + 1 =
    zeros_with_digit c.loop-byte.significand (get_or c.args.digits.now c.loop-byte.byte-index 0 - 48) in (
      c.with_digit-significand.ensures
          ∙ ap (λ k. with_digit c.loop-byte.significand k) d.value
          ∙ ap (λ s. with_byte s (get_or c.args.digits.now c.loop-byte.byte-index 0)) c.loop-byte.invariant.0
          ∙ sym more,
      rw c.with_digit-significand.ensures (omega (arith, one, c.loop-byte.invariant.1)),
    )
