use Rattle.std.proofs.Common.{Some, None, sym, ◌∙◌, drop}
use Rattle.sj_sql_token.proofs.Numbers.{number_found, whole_piece, fraction_piece}
use Rattle.sj_sql_token.proofs.number.number.Goals as goal

pub returns-in-None-clause-value : goal.returns-in-None-clause-value
returns-in-None-clause-value c =
    let f = number_found c.args.first c.args.after.now c.args.bytes.now c.digits_len-whole.result c.fraction_len-fraction.result None c.requires.digit c.requires.bytes c.digits_len-whole.ensures.value
    c.digits_len-whole.ensures.within c.fraction_len-fraction.ensures.value c.in-None.ensures in
    f.0

pub returns-in-Some-clause-value : goal.returns-in-Some-clause-value
returns-in-Some-clause-value c =
    let f = number_found c.args.first c.args.after.now c.args.bytes.now c.digits_len-whole.result c.fraction_len-fraction.result (Some c.in-Some.number) c.requires.digit c.requires.bytes c.digits_len-whole.ensures.value
    c.digits_len-whole.ensures.within c.fraction_len-fraction.ensures.value c.in-Some.ensures in
    sym (whole_piece (drop c.digits_len-whole.result c.args.after.now) c.in-Some.number c.fraction_len-fraction.result _ f.1 c.if-fraction-eq0.true) ∙ f.0

pub returns-in-Some-2-clause-value : goal.returns-in-Some-2-clause-value
returns-in-Some-2-clause-value c =
    let f = number_found c.args.first c.args.after.now c.args.bytes.now c.digits_len-whole.result c.fraction_len-fraction.result (Some c.in-Some.number) c.requires.digit c.requires.bytes c.digits_len-whole.ensures.value
    c.digits_len-whole.ensures.within c.fraction_len-fraction.ensures.value c.in-Some.ensures in
    sym (fraction_piece (drop c.digits_len-whole.result c.args.after.now) c.in-Some.number c.fraction_len-fraction.result _ f.1 c.if-fraction-eq0.false) ∙ f.0
