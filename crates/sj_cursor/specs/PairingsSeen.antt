-- What was seen of the pairs of two traces.
use Rattle.std.specs.Prelude.{◌≡◌, ◌≤◌, ℕ, Bool, false, ◌&&◌}
use Rattle.sj_base.specs.Count.{raised}
use Rattle.sj_step.specs.Trace.{Trace}
use Rattle.sj_cursor.specs.Comparisons.{PairTruth}
use Rattle.sj_cursor.specs.Verdicts.{has_item}
use Rattle.sj_cursor.specs.Pairings.{pairings_true, pairings_doubt, pairings_cost}

-- All pairs were seen, or those up to the first true one where `early` is set: there is such a one, or there is a doubt; and there is a left
-- item or not.
pub record PairingsSeen (early : Bool) (pair : PairTruth) (left right : Trace) (found doubt some : Bool) (steps later : ℕ) : Type 0 where
  pub finds : found ≡ pairings_true pair left right
  pub doubts : early && found ≡ false → doubt ≡ pairings_doubt pair left right
  pub somes : early && found ≡ false → some ≡ has_item left
  pub costs : later ≤ raised steps (pairings_cost early pair left right)
