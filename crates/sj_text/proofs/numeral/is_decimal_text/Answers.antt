use Rattle.std.proofs.Common.{arith}
use Rattle.sj_text.proofs.Numerals.{whole_is_decimal}
use Rattle.sj_text.proofs.numeral.is_decimal_text.Goals as goal

pub returns-then-whole-numeral : goal.returns-then-whole-numeral
returns-then-whole-numeral c =
    let whole = c.whole_end-whole in
    λ _. whole_is_decimal whole.result c.args.numeral.now (whole.ensures.text (omega (arith, c.if-whole-eq0.false))) c.if-whole-numeral.true (omega (arith, c.if-numeral-gt-LONGEST_SHORT.false))
