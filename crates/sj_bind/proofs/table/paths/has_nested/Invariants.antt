use Rattle.std.proofs.Common.{◌≡◌, drop}
use Rattle.sj_bind.specs.FlatView.{paths_at}
use Rattle.sj_bind.specs.Plans.{has_nested}
use Rattle.sj_bind.proofs.table.paths.has_nested.Given as goal

-- none of the paths so far is nested there
abbrev pub invariant-loop-path : goal.invariant-loop-path
invariant-loop-path l = has_nested (paths_at (drop l.path-index l.paths)) l.parent ≡ has_nested (paths_at l.paths) l.parent
