use Rattle.std.proofs.Common.{length}
use Rattle.sj_plain_path.proofs.Chains.{Ahead}
use Rattle.sj_plain_path.proofs.chain.element_at.Given as goal

abbrev pub invariant-elements : goal.invariant-elements
invariant-elements l = Ahead l.index l.before l.initial.elements l.elements l.fn.steps l.steps

abbrev pub decreases-elements : goal.decreases-elements
decreases-elements l = length l.elements
