use Rattle.std.proofs.Common.{◌≡◌, ◌+◌, ◌-◌, ◌≤◌, length, drop}
use Rattle.std.specs.List.{prefix_len}
use Rattle.sj_scan.specs.Runs.{is_run}
use Rattle.sj_scan.proofs.run.run_len.Given as goal

abbrev pub invariant-steps : goal.invariant-steps
invariant-steps l = (prefix_len is_run l.bytes ≡ l.at + prefix_len is_run (drop l.at l.bytes)) × (l.at ≤ length l.bytes)

abbrev pub decreases-steps : goal.decreases-steps
decreases-steps l = length l.bytes - l.at
