use Rattle.std.proofs.Common.{◌≡◌, ◌||◌, drop}
use Rattle.std.specs.List.{list_any}
use Rattle.sj_sql_tree.specs.View.{values_of, members_of}
use Rattle.sj_bind.specs.Names.{names_of}
use Rattle.sj_bind.specs.Parts.{names_in_values, names_in_members, keys_in_values, keys_in_members}
use Rattle.sj_bind.specs.RowRules.{is_unknown, is_wrong_key}
use Rattle.sj_bind.proofs.row_rules.+broken.Given as goal

-- what is broken so far or by the members that are left is all that is broken
abbrev pub invariant-with_members-loop-member : goal.invariant-with_members-loop-member
invariant-with_members-loop-member l = record {
  unknown : (l.broken.unknown_name || list_any (is_unknown (names_of l.known.columns.now)) (names_in_members (members_of (drop l.member-index l.members))))
      ≡ (l.fn.before.unknown_name || list_any (is_unknown (names_of l.known.columns.now)) (names_in_members (members_of l.members)));
  wrong : (l.broken.wrong_key || list_any (is_wrong_key (names_of l.known.texts.now)) (keys_in_members (members_of (drop l.member-index l.members))))
      ≡ (l.fn.before.wrong_key || list_any (is_wrong_key (names_of l.known.texts.now)) (keys_in_members (members_of l.members)));
}

-- what is broken so far or by the values that are left is all that is broken
abbrev pub invariant-with_values-loop-value : goal.invariant-with_values-loop-value
invariant-with_values-loop-value l = record {
  unknown : (l.broken.unknown_name || list_any (is_unknown (names_of l.known.columns.now)) (names_in_values (values_of (drop l.value-index l.values))))
      ≡ (l.fn.before.unknown_name || list_any (is_unknown (names_of l.known.columns.now)) (names_in_values (values_of l.values)));
  wrong : (l.broken.wrong_key || list_any (is_wrong_key (names_of l.known.texts.now)) (keys_in_values (values_of (drop l.value-index l.values))))
      ≡ (l.fn.before.wrong_key || list_any (is_wrong_key (names_of l.known.texts.now)) (keys_in_values (values_of l.values)));
}
