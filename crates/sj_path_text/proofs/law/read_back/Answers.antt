use Rattle.sj_path_text.proofs.Laws as laws
use Rattle.sj_path_text.proofs.Utf8.{stays_utf8}
use Rattle.sj_path_text.proofs.law.read_back.Goals as goal

pub returns-clause-tokens : goal.returns-clause-tokens
returns-clause-tokens c = laws.breaks

pub returns-clause-tree : goal.returns-clause-tree
returns-clause-tree c = laws.spells

pub returns-clause-accepted : goal.returns-clause-accepted
returns-clause-accepted c = laws.accepted

pub returns-clause-utf8 : goal.returns-clause-utf8
returns-clause-utf8 c = stays_utf8
