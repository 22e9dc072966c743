use Rattle.std.proofs.Common.{◌≡◌, false, ◌++◌, drop}
use Rattle.sj_bind.specs.FlatView.{paths_at}
use Rattle.sj_bind.specs.Names.{names_of}
use Rattle.sj_bind.specs.Tables.{names_of_paths, has_twice}
use Rattle.sj_bind.proofs.table.names.note_paths.Given as goal

-- no name was seen twice, and those seen and those left are all that were to be noted
abbrev pub invariant-loop-path : goal.invariant-loop-path
invariant-loop-path l = record {
  once : has_twice (names_of l.seen) ≡ false;
  all : names_of l.seen ++ names_of_paths (paths_at (drop l.path-index l.paths)) ≡ names_of l.fn.seen ++ names_of_paths (paths_at l.paths);
}
