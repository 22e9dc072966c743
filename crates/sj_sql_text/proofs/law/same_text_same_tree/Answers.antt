use Rattle.sj_sql_text.proofs.AcceptedFiles.{same_statement, same_file}
use Rattle.sj_sql_text.proofs.law.same_text_same_tree.Goals as goal

pub returns-clause-statement : goal.returns-clause-statement
returns-clause-statement c = same_statement

pub returns-clause-file : goal.returns-clause-file
returns-clause-file c = same_file
