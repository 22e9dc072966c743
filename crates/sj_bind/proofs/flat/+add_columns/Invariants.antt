use Rattle.std.proofs.Common.{◌≡◌, ◌+◌, ◌++◌, length}
use Rattle.sj_sql_grammar.specs.Tree.{Last}
use Rattle.sj_sql_tree.specs.View.{column_of, columns_of, columns_onto}
use Rattle.sj_bind.specs.Flat.{paths_below, columns_below}
use Rattle.sj_bind.specs.FlatView.{paths_at, columns_at}
use Rattle.sj_bind.proofs.flat.+add_columns.Given as goal

-- what was added, and what is left
abbrev pub invariant-add_columns-loop-column : goal.invariant-add_columns-loop-column
invariant-add_columns-loop-column l =
    let all = columns_of l.fn.columns in
    let left = columns_onto l.column-iterator.rest.items (Last (column_of l.fn.columns.last)) in
    let first = length l.fn.parts.paths.items in
    let next = length l.parts.paths.items in
    record {
      paths : paths_at l.parts.paths.items ++ paths_below l.parent next left ≡ paths_at l.fn.parts.paths.items ++ paths_below l.parent first all;
      columns : columns_at l.parts.columns.items ++ columns_below l.parent next left ≡ columns_at l.fn.parts.columns.items ++ columns_below l.parent first all;
      count : next + length (paths_below l.parent next left) ≡ first + length (paths_below l.parent first all);
    }
