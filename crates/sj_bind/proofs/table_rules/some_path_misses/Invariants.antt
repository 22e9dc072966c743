use Rattle.std.proofs.Common.{◌≡◌, drop}
use Rattle.std.specs.List.{list_any}
use Rattle.sj_bind.specs.Variables.{misses}
use Rattle.sj_bind.specs.Names.{names_of}
use Rattle.sj_bind.specs.FlatView.{paths_at}
use Rattle.sj_bind.specs.Rules.{paths_alone}
use Rattle.sj_bind.proofs.table_rules.some_path_misses.Given as goal

-- those so far keep the rule
abbrev pub invariant-loop-path : goal.invariant-loop-path
invariant-loop-path l = list_any (misses (names_of l.names)) (paths_alone (paths_at (drop l.path-index l.paths))) ≡ list_any (misses (names_of l.names)) (paths_alone (paths_at l.paths))
