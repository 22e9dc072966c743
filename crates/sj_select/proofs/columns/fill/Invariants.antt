use Rattle.std.proofs.Common.{◌≡◌, ◌≤◌, map, drop}
use Rattle.std.specs.List.{All}
use Rattle.sj_base.specs.Count.{raised}
use Rattle.sj_value.specs.Values.{IsPrintable}
use Rattle.sj_select_list.proofs.GatheredOutcomes.{behind}
use Rattle.sj_select.specs.Columns.{columns_given, columns_cost}
use Rattle.sj_select.specs.Filling.{column_of}
use Rattle.sj_select.proofs.columns.fill.Given as goal

-- the values so far and those of the columns that are left are all, and so with the steps
abbrev pub invariant-loop-column : goal.invariant-loop-column
invariant-loop-column l = record {
  columns : map column_of l.columns ≡ map column_of l.fn.columns;
  printable : All IsPrintable l.values.items;
  ends : behind l.values.items (columns_given (drop l.column-index (map column_of l.fn.columns)) l.row.given) ≡ columns_given (map column_of l.fn.columns) l.row.given;
  costs : raised l.steps (columns_cost (drop l.column-index (map column_of l.fn.columns)) l.row.given) ≤ raised l.fn.steps (columns_cost (map column_of l.fn.columns) l.row.given);
}
