use Rattle.sj_forward_laws.proofs.Apart.{items_apart}
use Rattle.sj_forward_laws.proofs.Placed.{items_nodes}
use Rattle.sj_forward_laws.proofs.law.forward_items_lie_apart.Goals as goal

pub returns-clause-nodes : goal.returns-clause-nodes
returns-clause-nodes c = items_nodes

pub returns-clause-apart : goal.returns-clause-apart
returns-clause-apart c = items_apart
