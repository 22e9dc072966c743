use Rattle.std.proofs.Common.{◌-◌, ◌≤◌, length}
use Rattle.sj_read.specs.Scans.{AsciiBetween}
use Rattle.sj_read.proofs.utf8.ascii_end_of_31.Given as goal

abbrev pub invariant-loop-i : goal.invariant-loop-i
invariant-loop-i l = record {
  later : l.from ≤ l.i;
  within : l.i ≤ length l.bytes;
  ascii : AsciiBetween l.bytes l.from l.i;
}

abbrev pub decreases-loop-i : goal.decreases-loop-i
decreases-loop-i l = length l.bytes - l.i
