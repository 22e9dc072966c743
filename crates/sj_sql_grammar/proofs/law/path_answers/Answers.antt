use Rattle.sj_sql_grammar.proofs.PathAnswers.{accepted_answer, refused_answer, answer_accepted, answer_refused}
use Rattle.sj_sql_grammar.proofs.law.path_answers.Goals as goal

pub returns-clause-accepted : goal.returns-clause-accepted
returns-clause-accepted c = λ text p. (answer_accepted text p, accepted_answer text p)

pub returns-clause-refused : goal.returns-clause-refused
returns-clause-refused c = λ text e. (answer_refused text e, (λ h. refused_answer text e h.1 h.0))
