use Rattle.sj_sql_text.proofs.AcceptedFiles.{statement_back, file_back, file_utf8}
use Rattle.sj_sql_text.proofs.law.read_back.Goals as goal

pub returns-clause-statement : goal.returns-clause-statement
returns-clause-statement c = statement_back

pub returns-clause-file : goal.returns-clause-file
returns-clause-file c = file_back

pub returns-clause-utf8 : goal.returns-clause-utf8
returns-clause-utf8 c = file_utf8
