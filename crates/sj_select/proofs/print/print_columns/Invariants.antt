use Rattle.std.proofs.Common.{◌≡◌, map}
use Rattle.sj_select.specs.Filling.{column_of}
use Rattle.sj_select.proofs.PrintedColumns.{HasCome}
use Rattle.sj_select.proofs.print.print_columns.Given as goal

-- the columns so far have printed their values
abbrev pub invariant-loop-column : goal.invariant-loop-column
invariant-loop-column l = record {
  columns : map column_of l.columns ≡ map column_of l.fn.columns;
  come : HasCome l.row.given (map column_of l.fn.columns) l.column-index l.fn.out l.out l.fn.steps l.steps;
}
