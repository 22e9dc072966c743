use Rattle.std.proofs.Common.{◌≡◌, ◌++◌, drop}
use Rattle.sj_bound.specs.View.{items_of}
use Rattle.sj_select_list.specs.Operations.{steps_of, steps_to_all}
use Rattle.sj_select_list.specs.Values.{values_in}
use Rattle.sj_select_list.proofs.build.operations_in.Given as goal

-- the operations so far and those of the items that are left are all
abbrev pub invariant-loop-item : goal.invariant-loop-item
invariant-loop-item l = steps_of l.operations.items ++ steps_to_all (values_in (items_of (drop l.item-index l.items))) ≡ steps_to_all (values_in (items_of l.items))
