use Rattle.std.proofs.Common.{◌≡◌, ◌++◌, map, drop}
use Rattle.std.specs.List.{All}
use Rattle.sj_bound.specs.View.{items_of}
use Rattle.sj_select_list.specs.Aggregates.{aggregates_in}
use Rattle.sj_select_list.specs.Taking.{aggregate_of, IsReady}
use Rattle.sj_select_list.proofs.aggregate.aggregates_of.Given as goal

-- the aggregates so far and those of the items that are left are all
abbrev pub invariant-loop-item : goal.invariant-loop-item
invariant-loop-item l = record {
  aggregates : map aggregate_of l.all.items ++ aggregates_in (items_of (drop l.item-index l.items)) ≡ aggregates_in (items_of l.items);
  ready : All IsReady l.all.items;
}
