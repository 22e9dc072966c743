use Rattle.std.proofs.Common.{◌≡◌, ◌++◌, length}
use Rattle.sj_json.specs.Keys.{keys}
use Rattle.sj_doc.specs.Slots.{texts}
use Rattle.sj_doc.specs.Keys.{given}
use Rattle.sj_doc.specs.Listed.{node_tree}
use Rattle.sj_doc.proofs.keys.collect.Given as goal

abbrev pub invariant-loop-child : goal.invariant-loop-child
invariant-loop-child l = texts l.keys.items ++ given l.children ≡ keys (node_tree l.fn.node)

abbrev pub decreases-loop-child : goal.decreases-loop-child
decreases-loop-child l = length l.children
