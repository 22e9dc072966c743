use Rattle.std.proofs.Common.{◌+◌, drop, arith}
use Rattle.std.proofs.lemmas.Grind.{common_steps}
use Rattle.sj_bind.specs.FlatView.{columns_at}
use Rattle.sj_bind.specs.Names.{names_of}
use Rattle.sj_bind.specs.Tables.{names_of_columns}
use Rattle.sj_bind.proofs.NameLists.{twice_from}
use Rattle.sj_bind.proofs.table.names.note_columns.Goals as goal

pub returns-then-branch-clause-twice : goal.returns-then-branch-clause-twice
returns-then-branch-clause-twice c =
    let twice = twice_from (names_of c.loop-column.seen) c.column_name.result.now (names_of_columns (columns_at (drop (c.loop-column.column-index + 1) c.args.columns.now))) in
    grind (arith, common_steps)
