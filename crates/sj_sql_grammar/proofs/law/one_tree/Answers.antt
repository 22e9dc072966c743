use Rattle.sj_sql_grammar.proofs.Laws as laws
use Rattle.sj_sql_grammar.proofs.law.one_tree.Goals as goal

pub returns : goal.returns
returns c = laws.one_tree
