use Rattle.std.proofs.Common.{◌≡◌, ◌+◌, ◌++◌, length}
use Rattle.std.specs.Vec.Iter.{into_iter_items}
use Rattle.sj_bind.specs.FlatView.{columns_at}
use Rattle.sj_bind.specs.Meaning.{bound_columns}
use Rattle.sj_bind.specs.FitColumns.{CanBindAll}
use Rattle.sj_bound.specs.View as view
use Rattle.sj_bind.proofs.table.whole.bound_columns.Given as goal

-- the columns so far, and those that are left
abbrev pub invariant-loop-column : goal.invariant-loop-column
invariant-loop-column l = record {
  can_next : (goal.iterator-loop-column).can_next l.column-iterator;
  is_finite : (goal.iterator-loop-column).is_finite l.column-iterator;
  fit : CanBindAll (columns_at (into_iter_items l.column-iterator));
  few : length l.bound + length (into_iter_items l.column-iterator) ≡ length l.fn.columns.items;
  all : view.columns_of l.bound ++ bound_columns (columns_at (into_iter_items l.column-iterator)) ≡ bound_columns (columns_at l.fn.columns.items);
}
