use Rattle.std.proofs.Common.{◌+◌, drop, arith}
use Rattle.std.proofs.lemmas.Grind.{common_steps}
use Rattle.sj_bind.specs.FlatView.{paths_at}
use Rattle.sj_bind.specs.Names.{names_of}
use Rattle.sj_bind.specs.Tables.{names_of_paths}
use Rattle.sj_bind.proofs.NameLists.{twice_from}
use Rattle.sj_bind.proofs.table.names.note_paths.Goals as goal

pub returns-then-branch : goal.returns-then-branch
returns-then-branch c =
    let twice = twice_from (names_of c.loop-path.seen) c.as_str.result.now (names_of_paths (paths_at (drop (c.loop-path.path-index + 1) c.args.paths.now))) in
    grind (arith, common_steps)
