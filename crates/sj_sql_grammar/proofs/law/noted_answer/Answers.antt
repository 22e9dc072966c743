use Rattle.sj_sql_grammar.proofs.Verdicts as verdicts
use Rattle.sj_sql_grammar.proofs.law.noted_answer.Goals as goal

pub returns-clause-too_deep : goal.returns-clause-too_deep
returns-clause-too_deep c = verdicts.too_deep

pub returns-clause-no_tree : goal.returns-clause-no_tree
returns-clause-no_tree c = verdicts.no_tree

pub returns-clause-fault : goal.returns-clause-fault
returns-clause-fault c = verdicts.path_fault

pub returns-clause-unsupported : goal.returns-clause-unsupported
returns-clause-unsupported c = verdicts.lacking

pub returns-clause-accepted : goal.returns-clause-accepted
returns-clause-accepted c = verdicts.clean
