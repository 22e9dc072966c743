use Rattle.std.proofs.Common.{ℕ, ◌+◌, ◌<◌}
use Rattle.sj_doc.proofs.Distinct.{DifferAt}
use Rattle.sj_doc.proofs.keys.neighbours_differ.Given as goal

abbrev pub invariant-loop-later : goal.invariant-loop-later
invariant-loop-later l = (k : ℕ) → k + 1 < l.later → DifferAt l.keys k (k + 1)
