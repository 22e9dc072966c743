use Rattle.std.proofs.Common.{◌≡◌, ◌++◌, drop}
use Rattle.sj_bound.specs.View.{values_of, members_of}
use Rattle.sj_select_list.specs.Operations.{steps_of, steps_to_values, steps_to_members}
use Rattle.sj_select_list.proofs.build.+push_value.Given as goal

-- the operations so far and those of the values that are left are all
abbrev pub invariant-push_values-loop-value : goal.invariant-push_values-loop-value
invariant-push_values-loop-value l = steps_of l.operations.items ++ steps_to_values (values_of (drop l.value-index l.values)) ≡ steps_of l.fn.operations.items ++ steps_to_values (values_of l.values)

-- the same of members
abbrev pub invariant-push_members-loop-member : goal.invariant-push_members-loop-member
invariant-push_members-loop-member l = steps_of l.operations.items ++ steps_to_members (members_of (drop l.member-index l.members)) ≡ steps_of l.fn.operations.items ++ steps_to_members (members_of l.members)
