use Rattle.std.proofs.Common.{◌≡◌, ◌+◌, ◌++◌, length}
use Rattle.std.specs.Vec.Iter.{into_iter_items}
use Rattle.sj_sql_tree.specs.View.{plain_of}
use Rattle.sj_bind.specs.Fits.{AreListFit}
use Rattle.sj_bind.specs.Meaning.{bound_list}
use Rattle.sj_bound.specs.View as view
use Rattle.sj_bind.proofs.binding.bind_list.Given as goal

-- the items so far, and the values that are left
abbrev pub invariant-loop-value : goal.invariant-loop-value
invariant-loop-value l = record {
  can_next : (goal.iterator-loop-value).can_next l.value-iterator;
  is_finite : (goal.iterator-loop-value).is_finite l.value-iterator;
  fit : AreListFit (plain_of (into_iter_items l.value-iterator));
  few : length l.items + length (into_iter_items l.value-iterator) ≡ length l.fn.values;
  all : view.items_of l.items ++ bound_list (plain_of (into_iter_items l.value-iterator)) ≡ bound_list (plain_of l.fn.values);
}
