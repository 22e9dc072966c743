use Rattle.std.proofs.Common.{◌-◌, length}
use Rattle.sj_run.proofs.kept.new_places.Given as goal

abbrev pub invariant-loop-places : goal.invariant-loop-places
invariant-loop-places l = Unit {0}

abbrev pub decreases-loop-places : goal.decreases-loop-places
decreases-loop-places l = 64 - length l.places.items
