use Rattle.sj_rows.proofs.Escapes as escapes
use Rattle.sj_rows.proofs.law.one_field.Goals as goal

pub returns-clause-ends : goal.returns-clause-ends
returns-clause-ends c = escapes.no_ends

pub returns-clause-distinct : goal.returns-clause-distinct
returns-clause-distinct c = escapes.distinct

pub returns-clause-null : goal.returns-clause-null
returns-clause-null c = escapes.no_null
