use Rattle.sj_sql_grammar.proofs.Faults as faults
use Rattle.sj_sql_grammar.proofs.law.noted_faults.Goals as goal

pub returns-clause-fault : goal.returns-clause-fault
returns-clause-fault c = faults.first_fault

pub returns-clause-faultless : goal.returns-clause-faultless
returns-clause-faultless c = faults.no_fault

pub returns-clause-unsupported : goal.returns-clause-unsupported
returns-clause-unsupported c = faults.first_unsupported

pub returns-clause-supported : goal.returns-clause-supported
returns-clause-supported c = faults.no_unsupported
