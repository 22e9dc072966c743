use Rattle.sj_sql_grammar.proofs.Verdicts as verdicts
use Rattle.sj_sql_grammar.proofs.law.one_answer.Goals as goal

pub returns : goal.returns
returns c = verdicts.one_answer
