use Rattle.std.proofs.Common.{◌≡◌, false, ◌++◌, drop}
use Rattle.sj_bind.specs.FlatView.{columns_at}
use Rattle.sj_bind.specs.Names.{names_of}
use Rattle.sj_bind.specs.Tables.{names_of_columns, has_twice}
use Rattle.sj_bind.proofs.table.names.note_columns.Given as goal

-- no name was seen twice, and those seen and those left are all that were to be noted
abbrev pub invariant-loop-column : goal.invariant-loop-column
invariant-loop-column l = record {
  once : has_twice (names_of l.seen) ≡ false;
  all : names_of l.seen ++ names_of_columns (columns_at (drop l.column-index l.columns)) ≡ names_of l.fn.seen ++ names_of_columns (columns_at l.columns);
}
