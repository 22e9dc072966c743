use Rattle.std.proofs.Common.{length}
use Rattle.sj_doc.specs.Listed.{node_tree}
use Rattle.sj_text.proofs.Printings.{IsUnderWay}
use Rattle.sj_text.proofs.node.node_text.Given as goal

abbrev pub invariant-loop-visit : goal.invariant-loop-visit
invariant-loop-visit l = IsUnderWay l.initial.out (node_tree l.fn.node) l.initial.steps l.out l.place l.tour l.steps

abbrev pub decreases-loop-visit : goal.decreases-loop-visit
decreases-loop-visit l = length l.tour.1
