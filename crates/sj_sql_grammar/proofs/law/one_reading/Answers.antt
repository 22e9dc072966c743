use Rattle.sj_sql_grammar.proofs.Laws as laws
use Rattle.sj_sql_grammar.proofs.law.one_reading.Goals as goal

pub returns : goal.returns
returns c = λ ts x. (laws.found ts x, laws.finds ts x)
