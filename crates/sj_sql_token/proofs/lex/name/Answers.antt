use Rattle.sj_sql_token.proofs.Pieces.{name_found}
use Rattle.sj_sql_token.proofs.lex.name.Goals as goal

pub returns-in-Some-utf8-clause-value : goal.returns-in-Some-utf8-clause-value
returns-in-Some-utf8-clause-value c =
    name_found c.args.after.now c.in-Some-utf8.inside.now c.in-Some.len c.in-Some.ensures.value c.if-len-eq0.false c.in-Some-utf8.ensures
