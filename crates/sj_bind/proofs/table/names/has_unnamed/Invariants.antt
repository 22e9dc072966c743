use Rattle.std.proofs.Common.{◌≡◌, drop}
use Rattle.sj_bind.specs.FlatView.{paths_at}
use Rattle.sj_bind.specs.Tables.{has_unnamed}
use Rattle.sj_bind.proofs.table.names.has_unnamed.Given as goal

-- the paths so far have names
abbrev pub invariant-loop-path : goal.invariant-loop-path
invariant-loop-path l = has_unnamed (paths_at (drop l.path-index l.paths)) ≡ has_unnamed (paths_at l.paths)
