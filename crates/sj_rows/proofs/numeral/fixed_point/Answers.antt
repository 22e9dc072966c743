use Rattle.std.proofs.Common.{◌-◌, ℕ, length, arith, ⊎_elim}
use Rattle.std.proofs.lemmas.Option.{IfSome_then}
use Rattle.sj_rows.proofs.Numerals.{more_digits, fixed_text_of}
use Rattle.sj_rows.proofs.numeral.fixed_point.Goals as goal

pub returns-then-places-eq0-clause-text : goal.returns-then-places-eq0-clause-text
returns-then-places-eq0-clause-text c =
    IfSome_then c.whole_end.result c.whole_end.ensures.text (λ end text digits.
    more_digits c.min.result c.args.digits c.args.places c.args.numeral.now (text digits) (omega arith) c.if-places-eq0.true)

pub returns-clause-text : goal.returns-clause-text
returns-clause-text c digits =
    let point : ℕ = length c.args.numeral.now - c.args.places - 1 in
    fixed_text_of c.args.digits c.args.places point c.args.numeral.now digits (omega arith) c.if-numeral-point-ne46.false (omega arith) (omega arith) (omega arith) (omega arith)
    (λ zero. ⊎_elim (λ one. one.1) (λ other. absurd (other zero)) c.if-point-ne1.either)
