use Rattle.sj_sql_grammar.specs.Answers.{pieces}
use Rattle.sj_sql_grammar.proofs.Answered as answered
use Rattle.sj_sql_grammar.proofs.law.some_file.Goals as goal

pub returns : goal.returns
returns c = λ file. answered.some_script 1 (pieces file).statements (pieces file).ending
