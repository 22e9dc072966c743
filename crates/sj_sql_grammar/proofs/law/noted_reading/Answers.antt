use Rattle.sj_sql_grammar.proofs.Verdicts as verdicts
use Rattle.sj_sql_grammar.proofs.law.noted_reading.Goals as goal

pub returns : goal.returns
returns c = λ n f ts. verdicts.noted_reading n f ts
