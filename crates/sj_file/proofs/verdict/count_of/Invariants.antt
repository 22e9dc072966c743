use Rattle.std.proofs.Common.{◌+◌, ◌≤◌, length}
use Rattle.sj_file.proofs.Verdicts.{HasTaken}
use Rattle.sj_file.proofs.verdict.count_of.Given as goal

-- how many statements were taken, and what is left
abbrev pub invariant-loop-bound : goal.invariant-loop-bound
invariant-loop-bound l = record {
  taken : HasTaken l.file l.count l.rest;
  room : l.count + length l.rest ≤ length l.file;
}

abbrev pub decreases-loop-bound : goal.decreases-loop-bound
decreases-loop-bound l = length l.rest
