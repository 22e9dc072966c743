use Rattle.std.proofs.Common.{◌∙◌, sym, arith}
use Rattle.sj_read.proofs.Unsigned.{one_digit}
use Rattle.sj_read.proofs.numeral.is_one_digit.Goals as goal

pub returns-then-is_ascii_digit : goal.returns-then-is_ascii_digit
returns-then-is_ascii_digit c = λ ends.
    one_digit c.args.bytes.now c.args.at c.args.c (omega (arith, c.requires.within)) c.requires.here (sym c.is_ascii_digit.ensures.value ∙ c.if-is_ascii_digit.true) (c.ends_value.ensures ends)
