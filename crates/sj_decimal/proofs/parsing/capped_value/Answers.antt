use Rattle.std.proofs.Common.{arith, get_or}
use Rattle.std.proofs.lemmas.Int.Digits.{digits_value_more}
use Rattle.sj_decimal.proofs.Digits.{IsDigitByte, digit_byte_at}
use Rattle.sj_decimal.proofs.parsing.capped_value.Goals as goal

pub overflow_sub-byte : goal.overflow_sub-byte
overflow_sub-byte c = (digit_byte_at c.args.digits.now c.loop-byte.byte-index c.requires c.loop-byte-test.true).low

pub loop-byte-preserved : goal.loop-byte-preserved
loop-byte-preserved c =
    let d : IsDigitByte (get_or c.args.digits.now c.loop-byte.byte-index 0) =
    digit_byte_at c.args.digits.now c.loop-byte.byte-index c.requires c.loop-byte-test.true in
    let more = digits_value_more 10 c.args.digits.now c.loop-byte.byte-index c.loop-byte-test.true in
    rw more (omega (arith, d.value, c.loop-byte.invariant))
