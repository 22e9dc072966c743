use Rattle.std.proofs.Common.{◌≡◌, ◌++◌, drop}
use Rattle.sj_sql_tree.specs.View.{values_of, members_of}
use Rattle.sj_bind.specs.Parts.{calls_in_values, calls_in_members, keys_in_values, keys_in_members}
use Rattle.sj_bind.specs.PartsView.{calls_of, keys_of}
use Rattle.sj_bind.proofs.parts.+find_parts.Given as goal

-- what is found, and what stands in the members that are left, is all that was to be found
abbrev pub invariant-find_in_members-loop-member : goal.invariant-find_in_members-loop-member
invariant-find_in_members-loop-member l = record {
  calls : calls_of l.parts.calls.items ++ calls_in_members (members_of (drop l.member-index l.members)) ≡ calls_of l.fn.parts.calls.items ++ calls_in_members (members_of l.members);
  keys : keys_of l.parts.keys.items ++ keys_in_members (members_of (drop l.member-index l.members)) ≡ keys_of l.fn.parts.keys.items ++ keys_in_members (members_of l.members);
}

-- what is found, and what stands in the values that are left, is all that was to be found
abbrev pub invariant-find_in_values-loop-value : goal.invariant-find_in_values-loop-value
invariant-find_in_values-loop-value l = record {
  calls : calls_of l.parts.calls.items ++ calls_in_values (values_of (drop l.value-index l.values)) ≡ calls_of l.fn.parts.calls.items ++ calls_in_values (values_of l.values);
  keys : keys_of l.parts.keys.items ++ keys_in_values (values_of (drop l.value-index l.values)) ≡ keys_of l.fn.parts.keys.items ++ keys_in_values (values_of l.values);
}
