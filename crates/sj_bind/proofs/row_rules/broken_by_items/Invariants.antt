use Rattle.std.proofs.Common.{◌≡◌, ◌||◌, drop}
use Rattle.std.specs.List.{list_any}
use Rattle.sj_sql_tree.specs.View.{items_of}
use Rattle.sj_bind.specs.Names.{names_of}
use Rattle.sj_bind.specs.Parts.{names_in_items, keys_in_items}
use Rattle.sj_bind.specs.RowRules.{is_unknown, is_wrong_key}
use Rattle.sj_bind.proofs.row_rules.broken_by_items.Given as goal

-- what is broken so far or by the items that are left is all that is broken
abbrev pub invariant-loop-item : goal.invariant-loop-item
invariant-loop-item l = record {
  unknown : (l.broken.unknown_name || list_any (is_unknown (names_of l.known.columns.now)) (names_in_items (items_of (drop l.item-index l.items))))
      ≡ list_any (is_unknown (names_of l.known.columns.now)) (names_in_items (items_of l.items));
  wrong : (l.broken.wrong_key || list_any (is_wrong_key (names_of l.known.texts.now)) (keys_in_items (items_of (drop l.item-index l.items))))
      ≡ list_any (is_wrong_key (names_of l.known.texts.now)) (keys_in_items (items_of l.items));
}
