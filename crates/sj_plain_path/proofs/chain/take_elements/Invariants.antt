use Rattle.std.proofs.Common.{length}
use Rattle.sj_plain_path.specs.Chains.{elements_of, Seeking}
use Rattle.sj_plain_path.specs.Takers.{taken_value}
use Rattle.sj_plain_path.proofs.chain.take_elements.Given as goal

abbrev pub invariant-elements : goal.invariant-elements
invariant-elements l =
    Seeking (taken_value l.aim l.fn.gathered) (elements_of l.initial.elements) (taken_value l.aim l.gathered) (elements_of l.elements) l.fn.steps l.steps

abbrev pub decreases-elements : goal.decreases-elements
decreases-elements l = length l.elements
