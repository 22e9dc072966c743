use Rattle.std.proofs.Common.{◌≡◌, not, drop}
use Rattle.std.specs.List.{list_any}
use Rattle.sj_path_tree.specs.Tree.{Path}
use Rattle.sj_sql_grammar.specs.Tree.{Item}
use Rattle.sj_sql_tree.specs.View.{items_of}
use Rattle.sj_bind.specs.Rules.{is_aggregate}
use Rattle.sj_bind.proofs.items.some_is_plain.Given as goal

-- those so far keep the rule
abbrev pub invariant-loop-item : goal.invariant-loop-item
invariant-loop-item l = list_any (λ (x : Item Path). not (is_aggregate x)) (items_of (drop l.item-index l.items)) ≡ list_any (λ (x : Item Path). not (is_aggregate x)) (items_of l.items)
