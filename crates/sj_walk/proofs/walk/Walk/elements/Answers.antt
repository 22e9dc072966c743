use Rattle.std.proofs.Common.{◌+◌, arith}
use Rattle.std.proofs.lemmas.Int.{ints}
use Rattle.sj_json.specs.Tree.{children}
use Rattle.sj_doc.specs.Listed.{node_id, node_tree}
use Rattle.sj_walk.specs.Walk.{walk_left}
use Rattle.sj_step.proofs.Ranges.{elements_between}
use Rattle.sj_walk.proofs.walk.Walk.elements.Goals as goal

pub returns : goal.returns
unfolding walk_left
returns c =
    elements_between c.args.start c.args.end _ _ (node_id c.args.node + 1) (children (node_tree c.args.node)) c.children.result c.children.ensures
    (omega (arith, ints)) (omega (arith, ints)) (omega (arith, ints))
