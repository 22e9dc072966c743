use Rattle.std.proofs.Common.{◌-◌, ◌≤◌, length}
use Rattle.sj_rows.specs.HeldLines.{HasNoFeed}
use Rattle.sj_rows.proofs.scan.first_feed.Given as goal

abbrev pub invariant-loop-i : goal.invariant-loop-i
invariant-loop-i l = (l.i ≤ length l.bytes) × HasNoFeed l.bytes l.i

abbrev pub decreases-loop-i : goal.decreases-loop-i
decreases-loop-i l = length l.bytes - l.i
