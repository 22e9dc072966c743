use Rattle.std.proofs.Common.{◌≡◌, drop}
use Rattle.std.specs.List.{list_any}
use Rattle.sj_sql_tree.specs.View.{items_of}
use Rattle.sj_bind.specs.Rules.{is_aggregate}
use Rattle.sj_bind.proofs.items.some_is_aggregate.Given as goal

-- those so far keep the rule
abbrev pub invariant-loop-item : goal.invariant-loop-item
invariant-loop-item l = list_any (is_aggregate) (items_of (drop l.item-index l.items)) ≡ list_any (is_aggregate) (items_of l.items)
