use Rattle.std.proofs.Common.{[], ◌∷◌, length}
use Rattle.sj_plain_path.specs.Chains.{member_under, Seeking}
use Rattle.sj_plain_path.specs.Takers.{taken_value}
use Rattle.sj_plain_path.proofs.Chains.{keyed}
use Rattle.sj_plain_path.proofs.chain.seek_inner.Given as goal

abbrev pub invariant-members : goal.invariant-members
invariant-members l =
    Seeking (taken_value l.search.aim l.fn.gathered) (keyed l.search.how l.outer (member_under l.inner ∷ []) l.initial.members) (taken_value l.search.aim l.gathered) (keyed l.search.how l.outer (member_under l.inner ∷ []) l.members) l.fn.steps l.steps

abbrev pub decreases-members : goal.decreases-members
decreases-members l = length l.members
