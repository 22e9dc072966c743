use Rattle.std.proofs.Common.{◌+◌, ◌*◌, length}
use Rattle.sj_plain_path.specs.Chains.{over, throughout, Seeking}
use Rattle.sj_plain_path.specs.Takers.{taken_value}
use Rattle.sj_plain_path.proofs.Chains.{keyed}
use Rattle.sj_plain_path.proofs.chain.+seek.Given as goal

abbrev pub decreases-seek : goal.decreases-seek
decreases-seek l = 3 * length l.links.now

abbrev pub decreases-seek_elements : goal.decreases-seek_elements
decreases-seek_elements l = 3 * length l.rest.now + 1

abbrev pub decreases-seek_under : goal.decreases-seek_under
decreases-seek_under l = 3 * length l.rest.now + 2

abbrev pub decreases-seek_members : goal.decreases-seek_members
decreases-seek_members l = 3 * length l.rest.now + 1

abbrev pub decreases-seek_itself : goal.decreases-seek_itself
decreases-seek_itself l = 3 * length l.rest.now + 1

abbrev pub invariant-seek_elements-elements : goal.invariant-seek_elements-elements
invariant-seek_elements-elements l =
    Seeking (taken_value l.search.aim l.fn.gathered) (throughout l.search.how l.rest l.initial.elements) (taken_value l.search.aim l.gathered) (throughout l.search.how l.rest l.elements) l.fn.steps l.steps

abbrev pub decreases-seek_elements-elements : goal.decreases-seek_elements-elements
decreases-seek_elements-elements l = length l.elements

abbrev pub invariant-seek_under-elements : goal.invariant-seek_under-elements
invariant-seek_under-elements l =
    Seeking (taken_value l.search.aim l.fn.gathered) (over l.search.how l.key l.rest l.initial.elements) (taken_value l.search.aim l.gathered) (over l.search.how l.key l.rest l.elements) l.fn.steps l.steps

abbrev pub decreases-seek_under-elements : goal.decreases-seek_under-elements
decreases-seek_under-elements l = length l.elements

abbrev pub invariant-seek_members-members : goal.invariant-seek_members-members
invariant-seek_members-members l =
    Seeking (taken_value l.search.aim l.fn.gathered) (keyed l.search.how l.key l.rest l.initial.members) (taken_value l.search.aim l.gathered) (keyed l.search.how l.key l.rest l.members) l.fn.steps l.steps

abbrev pub decreases-seek_members-members : goal.decreases-seek_members-members
decreases-seek_members-members l = length l.members
