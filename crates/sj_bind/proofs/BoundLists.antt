-- Values that are bound one after another: what is bound, in front of what is left.
use Rattle.std.proofs.Common.{◌≡◌, List, [], ◌∷◌, ◌++◌, refl, ap}
use Rattle.sj_bound.specs.Bound.{Values, NoValues, MoreValues, Members, NoMembers, MoreMembers}
use Rattle.sj_bound.specs.View.{value_of, values_of, members_of}
use Rattle.sj_bound.specs.declared.bound.BoundMember.{BoundMember}
use Rattle.sj_bound.specs.declared.bound.BoundValue.{BoundValue}

abbrev pub values_before : List BoundValue → Values → Values
values_before [] others = others
values_before (x ∷ xs) others = MoreValues (value_of x) (values_before xs others)

abbrev pub members_before : List BoundMember → Members → Members
members_before [] others = others
members_before (x ∷ xs) others = MoreMembers (value_of x.key) (value_of x.value) (members_before xs others)

pub values_before-push : (xs : List BoundValue) (x : BoundValue) (others : Values) → values_before (xs ++ x ∷ []) others ≡ values_before xs (MoreValues (value_of x) others)
values_before-push [] x others = refl
values_before-push (y ∷ xs) x others = ap (MoreValues (value_of y)) (values_before-push xs x others)

pub members_before-push : (xs : List BoundMember) (x : BoundMember) (others : Members) → members_before (xs ++ x ∷ []) others ≡ members_before xs (MoreMembers (value_of x.key) (value_of x.value) others)
members_before-push [] x others = refl
members_before-push (y ∷ xs) x others = ap (MoreMembers (value_of y.key) (value_of y.value)) (members_before-push xs x others)

pub values_before-none : (xs : List BoundValue) → values_before xs NoValues ≡ values_of xs
values_before-none [] = refl
values_before-none (x ∷ xs) = ap (MoreValues (value_of x)) (values_before-none xs)

pub members_before-none : (xs : List BoundMember) → members_before xs NoMembers ≡ members_of xs
members_before-none [] = refl
members_before-none (x ∷ xs) = ap (MoreMembers (value_of x.key) (value_of x.value)) (members_before-none xs)

pub ruleset bound_lists = (values_before-push, members_before-push, values_before-none, members_before-none)
