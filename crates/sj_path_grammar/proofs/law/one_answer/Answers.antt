use Rattle.sj_path_grammar.proofs.Laws as laws
use Rattle.sj_path_grammar.proofs.law.one_answer.Goals as goal

pub returns-clause-accepted : goal.returns-clause-accepted
returns-clause-accepted c = laws.accepted

pub returns-clause-refused : goal.returns-clause-refused
returns-clause-refused c = laws.refused
