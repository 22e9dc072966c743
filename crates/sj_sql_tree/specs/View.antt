-- A statement as a tree of the grammar, without where its parts lie in memory.
use Rattle.std.specs.Prelude.{List, [], ◌∷◌}
use Rattle.sj_path_tree.specs.Tree.{Path}
use Rattle.sj_path_tree.specs.View.{path_of}
use Rattle.sj_sql_grammar.specs.Tree as t
use Rattle.sj_sql_tree.specs.declared.tree.Common.{Common}
use Rattle.sj_sql_tree.specs.declared.tree.ExistsCall.{ExistsCall}
use Rattle.sj_sql_tree.specs.declared.tree.ValueCall.{ValueCall}
use Rattle.sj_sql_tree.specs.declared.tree.QueryCall.{QueryCall}
use Rattle.sj_sql_tree.specs.declared.tree.Value.{Row_of-Member, end_of-Member, more_of-Member, Row_of-Value, end_of-Value, more_of-Value, Value, Lit, Column as ColumnNamed, Exists, ValueOf, Query, IsJson, Object', Array'}
use Rattle.sj_sql_tree.specs.declared.tree.Member.{Member}
use Rattle.sj_sql_tree.specs.declared.tree.Item.{Item}
use Rattle.sj_sql_tree.specs.declared.tree.Item.TheVariants as i
use Rattle.sj_sql_tree.specs.declared.tree.RegularColumn.{RegularColumn}
use Rattle.sj_sql_tree.specs.declared.tree.FormattedColumn.{FormattedColumn}
use Rattle.sj_sql_tree.specs.declared.tree.Column as c
use Rattle.sj_sql_tree.specs.declared.tree.Column.{Row_of-Column, end_of-Column, more_of-Column, Column}
use Rattle.sj_sql_tree.specs.declared.tree.Columns.{Columns}
use Rattle.sj_sql_tree.specs.declared.tree.NamedPlan as p
use Rattle.sj_sql_tree.specs.declared.tree.NamedPlan.{NamedPlan}
use Rattle.sj_sql_tree.specs.declared.tree.PlanTree.{PlanTree}
use Rattle.sj_sql_tree.specs.declared.tree.PlanTree.TheVariants as pt
use Rattle.sj_sql_tree.specs.declared.tree.Table.{Table}
use Rattle.sj_sql_tree.specs.declared.tree.Statement.{Statement}
use Rattle.sj_sql_tree.specs.declared.tree.Statement.TheVariants as s

abbrev pub common_of : Common → t.Common Path
common_of x = record { encoding = x.encoding; path = path_of x.path; passing = x.passing }

abbrev pub exists_of : ExistsCall → t.ExistsCall Path
exists_of x = record { common = common_of x.common; on_error = x.on_error }

abbrev pub value_call_of : ValueCall → t.ValueCall Path
value_call_of x = record { common = common_of x.common; ty = x.ty; on_empty = x.on_empty; on_error = x.on_error }

abbrev pub query_of : QueryCall → t.QueryCall Path
query_of x = record { common = common_of x.common; clauses = x.clauses }

abbrev mutual
  pub value_of : Value → t.Value Path
  value_of (Lit x) = t.Lit x
  value_of (ColumnNamed name) = t.Column name
  value_of (Exists x) = t.Exists (exists_of x.value)
  value_of (ValueOf x) = t.ValueOf (value_call_of x.value)
  value_of (Query x) = t.Query (query_of x.value)
  value_of (IsJson x) = t.IsJson x
  value_of (Object' shape members nulls unique) = t.Object (member_row_of members) nulls unique
  value_of (Array' shape values nulls) = t.Array (value_row_of values) nulls

  -- the values and the members of a `Vec`
  pub value_row_of : {n : _} → Row_of-Value n → t.Values Path
  value_row_of end_of-Value = t.NoValues
  value_row_of (more_of-Value x others) = t.MoreValues (value_of x) (value_row_of others)

  pub member_row_of : {n : _} → Row_of-Member n → t.Members Path
  member_row_of end_of-Member = t.NoMembers
  member_row_of (more_of-Member key x others) = t.MoreMembers (value_of key) (value_of x) (member_row_of others)

-- the same of the values as a list, and of the members
abbrev pub values_of : List Value → t.Values Path
values_of [] = t.NoValues
values_of (x ∷ others) = t.MoreValues (value_of x) (values_of others)

abbrev pub members_of : List Member → t.Members Path
members_of [] = t.NoMembers
members_of (x ∷ others) = t.MoreMembers (value_of x.key) (value_of x.value) (members_of others)

-- a member as its key and its value
abbrev pub member_of : Member → t.Value Path × t.Value Path
member_of x = (value_of x.key, value_of x.value)

abbrev pub item_of : Item → t.Item Path
item_of (i.Single x) = t.Single (value_of x)
item_of (i.ArrayAgg x nulls) = t.ArrayAgg (value_of x) nulls
item_of (i.ObjectAgg x y nulls unique) = t.ObjectAgg (value_of x) (value_of y) nulls unique

abbrev pub regular_of : RegularColumn → t.RegularColumn Path
regular_of x = record { name = x.name; ty = x.ty; path = path_of x.path; on_empty = x.on_empty; on_error = x.on_error }

abbrev pub formatted_of : FormattedColumn → t.FormattedColumn Path
formatted_of x = record { name = x.name; encoding = x.encoding; path = path_of x.path; clauses = x.clauses }

abbrev mutual
  pub column_of : Column → t.ColumnOf Path
  column_of (c.Ordinality name) = t.Ordinality name
  column_of (c.Regular x) = t.Regular (regular_of x)
  column_of (c.Formatted x) = t.Formatted (formatted_of x)
  column_of (c.Exists name path action) = t.Existence name (path_of path) action
  column_of (c.Nested' path name a shape before last) = t.Nested (path_of path) name (column_row_onto before (t.Last (column_of last)))

  -- the columns of a `Vec`, before others
  pub column_row_onto : {n : _} → Row_of-Column n → t.Columns Path → t.Columns Path
  column_row_onto end_of-Column others = others
  column_row_onto (more_of-Column x rest) others = t.More (column_of x) (column_row_onto rest others)

-- the same of the columns as a list
abbrev pub columns_onto : List Column → t.Columns Path → t.Columns Path
columns_onto [] others = others
columns_onto (x ∷ rest) others = t.More (column_of x) (columns_onto rest others)

abbrev pub columns_of : Columns → t.Columns Path
columns_of x = columns_onto x.before.items (t.Last (column_of x.last))

abbrev pub plan_of : NamedPlan → t.NamedPlan
plan_of (p.Path name) = t.PathOf name
plan_of (p.Outer' name a x) = t.Outer name (plan_of x)
plan_of (p.Inner' name a x) = t.Inner name (plan_of x)
plan_of (p.Union' a x b y) = t.Union (plan_of x) (plan_of y)
plan_of (p.Cross' a x b y) = t.Cross (plan_of x) (plan_of y)

abbrev pub plan_tree_of : PlanTree → t.PlanTree
plan_tree_of (pt.Default in_out siblings) = t.Default in_out siblings
plan_tree_of (pt.Named x) = t.Named (plan_of x)

abbrev pub table_of : Table → t.Table Path
table_of x = record { common = common_of x.common; name = x.name; columns = columns_of x.columns; plan = plan_tree_of x.plan; on_error = x.on_error }

abbrev pub plain_of : List Value → List (t.Value Path)
plain_of [] = []
plain_of (x ∷ xs) = value_of x ∷ plain_of xs

abbrev pub items_of : List Item → List (t.Item Path)
items_of [] = []
items_of (x ∷ xs) = item_of x ∷ items_of xs

abbrev pub statement_of : Statement → t.Statement Path
statement_of (s.Plain xs) = t.Plain (plain_of xs)
statement_of (s.All x) = t.All (table_of x)
statement_of (s.Listed xs x) = t.Listed (items_of xs) (table_of x)
