use Rattle.std.proofs.Common.{◌≡◌, ◌&&◌, drop}
use Rattle.std.specs.List.{position_from}
use Rattle.sj_bind.specs.FlatView.{paths_at}
use Rattle.sj_bind.specs.Plans.{is_under, is_name, path_named}
use Rattle.sj_bind.proofs.table.paths.find_path.Given as goal

-- the path was not found, and the numbers go on
abbrev pub invariant-loop-number : goal.invariant-loop-number
invariant-loop-number l = position_from (λ path. is_under l.parent path && is_name l.name path.name) l.number (paths_at (drop l.number l.paths)) ≡ path_named (paths_at l.paths) l.parent l.name
