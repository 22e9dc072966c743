use Rattle.sj_forward_laws.proofs.Meanings.{items_are, texts_are}
use Rattle.sj_forward_laws.proofs.law.forward_items_are_walked.Goals as goal

pub returns-clause-trees : goal.returns-clause-trees
returns-clause-trees c = items_are

pub returns-clause-texts : goal.returns-clause-texts
returns-clause-texts c = texts_are
