use Rattle.std.proofs.Common.{arith, ⊎_elim}
use Rattle.sj_rows.proofs.Numerals.{whole_text_of}
use Rattle.sj_rows.proofs.numeral.whole_end.Goals as goal

pub returns-clause-text : goal.returns-clause-text
returns-clause-text c digits =
    whole_text_of c.args.most c.args.numeral.now digits (omega arith) (omega arith) (omega arith) (λ zero. ⊎_elim (λ one. one.1) (λ other. absurd (other zero)) c.if-len-ne1.either)
