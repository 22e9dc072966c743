use Rattle.std.proofs.Common.{◌≡◌, suc, ◌+◌, ◌≤◌, length, map}
use Rattle.sj_bound.specs.View.{bound_of}
use Rattle.sj_file.specs.Job.{AreSound}
use Rattle.sj_file.proofs.Verdicts.{IsTakenTo}
use Rattle.sj_file.proofs.verdict.statements_of.Given as goal

-- the statements so far, and what is left
abbrev pub invariant-loop-bound : goal.invariant-loop-bound
invariant-loop-bound l = record {
  taken : IsTakenTo l.file (map bound_of l.statements.items) l.rest;
  sound : AreSound l.statements.items;
  number : l.number ≡ suc (length l.statements.items);
  room : length l.statements.items + length l.rest ≤ length l.file;
}

abbrev pub decreases-loop-bound : goal.decreases-loop-bound
decreases-loop-bound l = length l.rest
