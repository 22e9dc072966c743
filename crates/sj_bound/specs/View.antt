-- A bound statement without where its parts lie in memory.
use Rattle.std.specs.Prelude.{List, [], ◌∷◌, map, Option, Some, None, Box}
use Rattle.std.specs.declared.alloc.Global.{Global}
use Rattle.sj_path_tree.specs.Tree as g
use Rattle.sj_path_tree.specs.declared.tree.Path.{Path}
use Rattle.sj_path_tree.specs.View.{path_of}
use Rattle.sj_value.specs.Plans.{plan_tree}
use Rattle.sj_bound.specs.Bound as b
use Rattle.sj_bound.specs.declared.bound.BoundPath.{BoundPath}
use Rattle.sj_bound.specs.declared.bound.BoundValue.{Row_of-BoundMember, end_of-BoundMember, more_of-BoundMember, Row_of-BoundValue, end_of-BoundValue, more_of-BoundValue, BoundValue, Lit, Column, Exists, Value, Query, IsJson, Object', Array'}
use Rattle.sj_bound.specs.declared.bound.BoundMember.{BoundMember}
use Rattle.sj_bound.specs.declared.bound.BoundItem.{BoundItem}
use Rattle.sj_bound.specs.declared.bound.BoundItem.TheVariants as i
use Rattle.sj_bound.specs.declared.bound.BoundColumn.{BoundColumn}
use Rattle.sj_bound.specs.declared.bound.BoundColumn.TheVariants as c
use Rattle.sj_bound.specs.declared.bound.BoundTable.{BoundTable}
use Rattle.sj_bound.specs.declared.bound.Bound.{Bound}

abbrev pub path_with_of : BoundPath → b.PathWith
path_with_of x = record { path = path_of x.path; vars = x.vars }

abbrev mutual
  pub value_of : BoundValue → b.Value
  value_of (Lit x) = b.Lit x
  value_of (Column n) = b.Column n
  value_of (Exists x on_error) = b.Exists (path_with_of x.value) on_error
  value_of (Value x clauses) = b.ValueOf (path_with_of x.value) clauses.value
  value_of (Query x clauses) = b.Query (path_with_of x.value) clauses
  value_of (IsJson x) = b.IsJson x
  value_of (Object' shape members nulls unique) = b.Object (member_row_of members) nulls unique
  value_of (Array' shape values nulls) = b.Array (value_row_of values) nulls

  -- the values and the members of a `Vec`
  pub value_row_of : {n : _} → Row_of-BoundValue n → b.Values
  value_row_of end_of-BoundValue = b.NoValues
  value_row_of (more_of-BoundValue x others) = b.MoreValues (value_of x) (value_row_of others)

  pub member_row_of : {n : _} → Row_of-BoundMember n → b.Members
  member_row_of end_of-BoundMember = b.NoMembers
  member_row_of (more_of-BoundMember key x others) = b.MoreMembers (value_of key) (value_of x) (member_row_of others)

-- the same of the values as a list, and of the members
abbrev pub values_of : List BoundValue → b.Values
values_of [] = b.NoValues
values_of (x ∷ others) = b.MoreValues (value_of x) (values_of others)

abbrev pub members_of : List BoundMember → b.Members
members_of [] = b.NoMembers
members_of (x ∷ others) = b.MoreMembers (value_of x.key) (value_of x.value) (members_of others)

abbrev pub item_of : BoundItem → b.Item
item_of (i.Value x) = b.Single (value_of x)
item_of (i.ArrayAgg x nulls) = b.ArrayAgg (value_of x.value) nulls
item_of (i.ObjectAgg x y nulls unique) = b.ObjectAgg (value_of x.value) (value_of y.value) nulls unique

abbrev pub column_of : BoundColumn → b.ColumnOf
column_of (c.Ordinality n) = b.Ordinality n
column_of (c.Regular n path clauses) = b.Regular n (path_of path) clauses.value
column_of (c.Formatted n path clauses) = b.Formatted n (path_of path) clauses
column_of (c.Exists n path on_error) = b.Existence n (path_of path) on_error

abbrev pub items_of : List BoundItem → List b.Item
items_of [] = []
items_of (x ∷ xs) = item_of x ∷ items_of xs

abbrev pub columns_of : List BoundColumn → List b.ColumnOf
columns_of [] = []
columns_of (x ∷ xs) = column_of x ∷ columns_of xs

abbrev pub paths_of : List Path → List g.Path
paths_of xs = map path_of xs

abbrev pub table_of : BoundTable → b.Table
table_of x = record { paths = paths_of x.paths; vars = x.vars; plan = plan_tree x.plan; on_error = x.on_error; columns = columns_of x.columns }

abbrev pub table_if_any : Option (Box BoundTable Global) → Option b.Table
table_if_any None = None
table_if_any (Some x) = Some (table_of x.value)

abbrev pub bound_of : Bound → b.Bound
bound_of x = record { items = items_of x.items; table = table_if_any x.table }
