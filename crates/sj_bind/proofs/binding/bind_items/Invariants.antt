use Rattle.std.proofs.Common.{◌≡◌, ◌+◌, ◌++◌, length}
use Rattle.std.specs.Vec.Iter.{into_iter_items}
use Rattle.sj_sql_tree.specs.View.{items_of}
use Rattle.sj_bind.specs.Fits.{AreItemsFit}
use Rattle.sj_bind.specs.Meaning.{bound_items}
use Rattle.sj_bind.specs.Names.{names_of}
use Rattle.sj_bound.specs.View as view
use Rattle.sj_bind.proofs.binding.bind_items.Given as goal

-- the items so far, and those that are left
abbrev pub invariant-loop-item : goal.invariant-loop-item
invariant-loop-item l = record {
  can_next : (goal.iterator-loop-item).can_next l.item-iterator;
  is_finite : (goal.iterator-loop-item).is_finite l.item-iterator;
  fit : AreItemsFit (names_of l.columns) (items_of (into_iter_items l.item-iterator));
  few : length l.bound + length (into_iter_items l.item-iterator) ≡ length l.fn.items;
  all : view.items_of l.bound ++ bound_items (names_of l.columns) (items_of (into_iter_items l.item-iterator)) ≡ bound_items (names_of l.columns) (items_of l.fn.items);
}
