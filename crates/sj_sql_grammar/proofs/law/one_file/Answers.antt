use Rattle.sj_sql_grammar.proofs.Scripts as scripts
use Rattle.sj_sql_grammar.proofs.law.one_file.Goals as goal

pub returns : goal.returns
returns c = scripts.one_file
