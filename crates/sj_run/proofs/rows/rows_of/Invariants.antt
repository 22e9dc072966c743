use Rattle.std.proofs.Common.{◌≡◌, map, take}
use Rattle.sj_bound.specs.View.{bound_of}
use Rattle.sj_run.specs.Batch.{bounds_in}
use Rattle.sj_run.proofs.rows.rows_of.Given as goal

-- the rows of each statement so far
abbrev pub invariant-loop-statement : goal.invariant-loop-statement
invariant-loop-statement l = bounds_in l.all.items ≡ map bound_of (take l.statement-index l.statements)
