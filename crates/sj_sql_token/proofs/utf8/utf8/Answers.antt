use Rattle.std.proofs.Common.{ap, Some, ◌∙◌}
use Rattle.sj_sql_token.proofs.Texts.{is_text, no_text}
use Rattle.sj_sql_token.proofs.utf8.utf8.Goals as goal

pub returns-in-Ok : goal.returns-in-Ok
returns-in-Ok c = ap Some c.in-Ok.ensures.0 ∙ is_text c.args.bytes.now c.in-Ok.ensures.1

pub returns-in-Err : goal.returns-in-Err
returns-in-Err c = no_text c.args.bytes.now c.in-Err.ensures
