use Rattle.std.proofs.Common.{◌≡◌}
use Rattle.sj_sql_tree.specs.View.{values_of, members_of}
use Rattle.sj_bind.specs.Names.{names_of}
use Rattle.sj_bind.specs.Fits.{AreFit, AreFitMembers}
use Rattle.sj_bind.specs.Meaning.{bound_values, bound_members}
use Rattle.sj_bind.proofs.BoundLists.{values_before, members_before}
use Rattle.sj_bind.proofs.values.+bind_values.Given as goal

-- what is bound, and what is left
abbrev pub invariant-bind_members-loop-member : goal.invariant-bind_members-loop-member
invariant-bind_members-loop-member l = record {
  fit : AreFitMembers (names_of l.columns) (members_of l.member-iterator.rest.items);
  all : members_before l.bound.items (bound_members (names_of l.columns) (members_of l.member-iterator.rest.items)) ≡ bound_members (names_of l.columns) (members_of l.fn.members.items);
}

-- what is bound, and what is left
abbrev pub invariant-bind_values-loop-value : goal.invariant-bind_values-loop-value
invariant-bind_values-loop-value l = record {
  fit : AreFit (names_of l.columns) (values_of l.value-iterator.rest.items);
  all : values_before l.bound.items (bound_values (names_of l.columns) (values_of l.value-iterator.rest.items)) ≡ bound_values (names_of l.columns) (values_of l.fn.values.items);
}
