use Rattle.sj_json.proofs.Complete.{one_tree_each}
use Rattle.sj_json.proofs.one_tree.Goals as goal

pub returns : goal.returns
returns c = one_tree_each
