use Rattle.sj_bind.proofs.Accepting as bindable
use Rattle.sj_bind.proofs.law.accepted_statements_are_bindable.Goals as goal

pub returns-clause-statement : goal.returns-clause-statement
returns-clause-statement c = bindable.accepted_bindable

pub returns-clause-file : goal.returns-clause-file
returns-clause-file c = bindable.file_bindable
