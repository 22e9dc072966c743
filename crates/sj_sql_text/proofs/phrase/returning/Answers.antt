use Rattle.std.proofs.Common.{◌∙◌}
use Rattle.std.proofs.lemmas.Result.{on_ok_weaker}
use Rattle.sj_sql_text.specs.Phrases.{type_on}
use Rattle.sj_sql_text.proofs.Growth.{puts}
use Rattle.sj_sql_text.proofs.phrase.returning.Goals as goal

pub returns : goal.returns
returns c = on_ok_weaker c.type_name.result (λ came rest. came rest ∙ puts _ _ _ c.in_ok-word.ensures (type_on c.args.ty rest)) c.type_name.ensures
