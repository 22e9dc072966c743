use Rattle.std.proofs.Common.{◌≡◌, ◌+◌, ◌++◌, length}
use Rattle.std.specs.Vec.Iter.{into_iter_items}
use Rattle.sj_bind.specs.FlatView.{paths_at}
use Rattle.sj_bind.specs.Rules.{paths_alone}
use Rattle.sj_bound.specs.View as view
use Rattle.sj_bind.proofs.table.whole.bound_paths.Given as goal

-- the paths so far, and those that are left
abbrev pub invariant-loop-path : goal.invariant-loop-path
invariant-loop-path l = record {
  can_next : (goal.iterator-loop-path).can_next l.path-iterator;
  is_finite : (goal.iterator-loop-path).is_finite l.path-iterator;
  few : length l.bound + length (into_iter_items l.path-iterator) ≡ length l.fn.paths.items;
  all : view.paths_of l.bound ++ paths_alone (paths_at (into_iter_items l.path-iterator)) ≡ paths_alone (paths_at l.fn.paths.items);
}
