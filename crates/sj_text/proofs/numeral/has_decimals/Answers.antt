use Rattle.std.proofs.Common.{arith, sym, ◌∙◌}
use Rattle.sj_text.proofs.Numerals.{other_byte, at_the_point, goes_on, pointed_is_decimal}
use Rattle.sj_text.proofs.numeral.has_decimals.Goals as goal

pub loop-end-init : goal.loop-end-init
loop-end-init c =
    (at_the_point c.args.point c.args.numeral.now c.requires.whole c.requires.within c.requires.point, omega (arith, c.requires.within))

pub loop-end-preserved : goal.loop-end-preserved
loop-end-preserved c =
    let within = c.loop-end-test.true in (
      goes_on c.args.point c.loop-end.end c.loop-end.last c.args.numeral.now c.loop-end.invariant.0 within (sym c.is_ascii_digit.ensures.value ∙ c.if-is_ascii_digit.true),
      omega (arith, within),
    )

pub returns-then-end-numeral : goal.returns-then-end-numeral
returns-then-end-numeral c =
    λ other. pointed_is_decimal c.args.point c.loop-end.end c.loop-end.last c.args.numeral.now c.loop-end.invariant.0 (other_byte c.loop-end.last other) c.if-end-numeral.true c.requires.short
