use Rattle.std.proofs.Common.{arith, ⊎_elim}
use Rattle.sj_rows.proofs.Numerals.{plain_text_of, whole_point}
use Rattle.sj_rows.proofs.numeral.plain_point.Goals as goal

pub returns-then-point-len-clause-text : goal.returns-then-point-len-clause-text
returns-then-point-len-clause-text c = whole_point c.args.numeral.now c.whole_end.result c.whole_end.ensures.text

pub returns-clause-text : goal.returns-clause-text
returns-clause-text c digits =
    let point = c.first_point-point in
    plain_text_of point.result c.args.numeral.now digits (omega arith) (point.ensures.point (omega arith)) (omega arith) c.if-point-len-2.false (omega arith)
    (λ zero. ⊎_elim (λ one. one.1) (λ other. absurd (other zero)) c.if-point-ne1.either) c.if-numeral-len-eq48.false
