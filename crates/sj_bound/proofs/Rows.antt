-- The values and the members that lie in a `Vec`, as the definitions have them.
use Rattle.std.proofs.Common.{◌≡◌, Bool, Vec, Global, refl, ap, ◌∙◌}
use mathlib.Core.Former.{Count}
use Rattle.sj_value.specs.declared.clauses.Nulls.{Nulls}
use Rattle.sj_bound.specs.Bound as b
use Rattle.sj_bound.specs.View.{value_of, value_row_of, member_row_of, values_of, members_of}
use Rattle.sj_bound.specs.declared.bound.BoundValue.{BoundValue, Object, Object', Array, Array', Row_of-BoundMember, end_of-BoundMember, more_of-BoundMember, items-the_row-BoundMember, items_hidden-the_row-BoundMember-0, Row_of-BoundValue, end_of-BoundValue, more_of-BoundValue, items-the_row-BoundValue, items_hidden-the_row-BoundValue-1}
use Rattle.sj_bound.specs.declared.bound.BoundMember.{BoundMember}

abbrev members_in : BoundValue → (n : Count) × Row_of-BoundMember n
members_in (Object' _ row _ _) = (_, row)
members_in _ = (_, end_of-BoundMember)

abbrev values_in : BoundValue → (n : Count) × Row_of-BoundValue n
values_in (Array' _ row _) = (_, row)
values_in _ = (_, end_of-BoundValue)

list_of_members : (n : _) (row : Row_of-BoundMember n) → member_row_of row ≡ members_of (items-the_row-BoundMember n row)
list_of_members n end_of-BoundMember = refl
list_of_members n (more_of-BoundMember key x others) = ap (b.MoreMembers (value_of key) (value_of x)) (list_of_members _ others)

list_of_values : (n : _) (row : Row_of-BoundValue n) → value_row_of row ≡ values_of (items-the_row-BoundValue n row)
list_of_values n end_of-BoundValue = refl
list_of_values n (more_of-BoundValue x others) = ap (b.MoreValues (value_of x)) (list_of_values _ others)

pub object : (members : Vec BoundMember Global) (nulls : Nulls) (unique : Bool) → value_of (Object members nulls unique) ≡ b.Object (members_of members.items) nulls unique
object members nulls unique =
    let row = members_in (Object members nulls unique) in
    ap (λ xs. b.Object xs nulls unique) (list_of_members row.0 row.1 ∙ ap members_of (items_hidden-the_row-BoundMember-0 members))

pub array : (values : Vec BoundValue Global) (nulls : Nulls) → value_of (Array values nulls) ≡ b.Array (values_of values.items) nulls
array values nulls =
    let row = values_in (Array values nulls) in
    ap (λ xs. b.Array xs nulls) (list_of_values row.0 row.1 ∙ ap values_of (items_hidden-the_row-BoundValue-1 values))

pub ruleset rows = (object, array)
