use Rattle.sj_sql_grammar.proofs.Answered as answered
use Rattle.sj_sql_grammar.proofs.law.some_answer.Goals as goal

pub returns : goal.returns
returns c = answered.some_answer
