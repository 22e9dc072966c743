use Rattle.std.proofs.Common.{◌≡◌}
use Rattle.sj_decimal.specs.Normal.{reduced}
use Rattle.sj_decimal.proofs.magnitude.reduce_long.Given as goal

abbrev pub invariant-loop-places : goal.invariant-loop-places
invariant-loop-places l = reduced l.long l.places ≡ reduced l.magnitude l.scale

abbrev pub decreases-loop-places : goal.decreases-loop-places
decreases-loop-places l = l.places
