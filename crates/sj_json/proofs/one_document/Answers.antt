use Rattle.sj_json.proofs.Documents.{document_spelled, document_none}
use Rattle.sj_json.proofs.one_document.Goals as goal

pub returns-clause-tree : goal.returns-clause-tree
returns-clause-tree c = document_spelled

pub returns-clause-none : goal.returns-clause-none
returns-clause-none c = document_none
