use Rattle.std.proofs.Common.{arith, sym, ◌∙◌}
use Rattle.sj_text.proofs.Numerals.{some_bytes, zero_whole, first_grown, grows_more}
use Rattle.sj_text.proofs.numeral.whole_end.Goals as goal

pub returns-then-numeral-eq48-clause-text : goal.returns-then-numeral-eq48-clause-text
returns-then-numeral-eq48-clause-text c =
    λ _. zero_whole c.args.numeral.now (some_bytes _ (sym c.is_empty.ensures ∙ c.if-is_empty.false)) c.if-numeral-eq48.true

pub loop-end-init : goal.loop-end-init
loop-end-init c =
    let some = some_bytes _ (sym c.is_empty.ensures ∙ c.if-is_empty.false) in
    (first_grown c.args.numeral.now some (sym c.is_ascii_digit.ensures.value ∙ c.if-not-is_ascii_digit.false) c.if-numeral-eq48.false, omega (arith, some))

pub loop-end-preserved : goal.loop-end-preserved
loop-end-preserved c =
    let within = c.loop-end-test.true in (
      grows_more c.loop-end.end c.args.numeral.now c.loop-end.invariant.0 within (omega (arith, within, c.requires)) (sym c.is_ascii_digit-in-loop-end.ensures.value ∙ c.if-is_ascii_digit.true),
      omega (arith, within),
    )
