use Rattle.sj_sql_text.proofs.SelectTokens.{select_spelled}
use Rattle.sj_sql_text.proofs.law.tokens_spell.Goals as goal

pub returns : goal.returns
returns c = λ ts x. select_spelled
