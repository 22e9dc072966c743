use Rattle.sj_sql_text.proofs.AcceptedTokens.{tokens_accepted}
use Rattle.sj_sql_text.proofs.law.tokens_accepted.Goals as goal

pub returns : goal.returns
returns c = tokens_accepted
