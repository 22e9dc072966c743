-- The values, the members and the columns that lie in a `Vec`, as the definitions have them.
use Rattle.std.proofs.Common.{◌≡◌, Bool, List, ℕ, Option, Box, Vec, Global, refl, ap, ◌∙◌}
use mathlib.Core.Former.{Count}
use Rattle.sj_path_tree.specs.declared.tree.Path.{Path}
use Rattle.sj_path_tree.specs.Tree as p
use Rattle.sj_path_tree.specs.View.{path_of}
use Rattle.sj_value.specs.declared.clauses.Nulls.{Nulls}
use Rattle.sj_sql_grammar.specs.Tree as t
use Rattle.sj_sql_tree.specs.View.{value_of, value_row_of, member_row_of, values_of, members_of, column_of, column_row_onto, columns_onto, columns_of}
use Rattle.sj_sql_tree.specs.declared.tree.Value.{Value, Object, Object', Array, Array', Row_of-Member, end_of-Member, more_of-Member, items-the_row-Member, items_hidden-the_row-Member-0, Row_of-Value, end_of-Value, more_of-Value, items-the_row-Value, items_hidden-the_row-Value-1}
use Rattle.sj_sql_tree.specs.declared.tree.Member.{Member}
use Rattle.sj_sql_tree.specs.declared.tree.Column.{Column, Nested, Nested', Row_of-Column, end_of-Column, more_of-Column, items-the_row-Column, items_hidden-the_row-Column-0}
use Rattle.sj_sql_tree.specs.declared.tree.Columns.{Columns}

abbrev members_in : Value → (n : Count) × Row_of-Member n
members_in (Object' _ row _ _) = (_, row)
members_in _ = (_, end_of-Member)

abbrev values_in : Value → (n : Count) × Row_of-Value n
values_in (Array' _ row _) = (_, row)
values_in _ = (_, end_of-Value)

abbrev columns_in : Column → (n : Count) × Row_of-Column n
columns_in (Nested' _ _ _ _ row _) = (_, row)
columns_in _ = (_, end_of-Column)

list_of_members : (n : _) (row : Row_of-Member n) → member_row_of row ≡ members_of (items-the_row-Member n row)
list_of_members n end_of-Member = refl
list_of_members n (more_of-Member key x others) = ap (t.MoreMembers (value_of key) (value_of x)) (list_of_members _ others)

list_of_values : (n : _) (row : Row_of-Value n) → value_row_of row ≡ values_of (items-the_row-Value n row)
list_of_values n end_of-Value = refl
list_of_values n (more_of-Value x others) = ap (t.MoreValues (value_of x)) (list_of_values _ others)

list_of_columns : (n : _) (row : Row_of-Column n) (others : t.Columns p.Path) → column_row_onto row others ≡ columns_onto (items-the_row-Column n row) others
list_of_columns n end_of-Column others = refl
list_of_columns n (more_of-Column x rest) others = ap (t.More (column_of x)) (list_of_columns _ rest others)

pub object : (members : Vec Member Global) (nulls : Nulls) (unique : Bool) → value_of (Object members nulls unique) ≡ t.Object (members_of members.items) nulls unique
object members nulls unique =
    let row = members_in (Object members nulls unique) in
    ap (λ xs. t.Object xs nulls unique) (list_of_members row.0 row.1 ∙ ap members_of (items_hidden-the_row-Member-0 members))

pub array : (values : Vec Value Global) (nulls : Nulls) → value_of (Array values nulls) ≡ t.Array (values_of values.items) nulls
array values nulls =
    let row = values_in (Array values nulls) in
    ap (λ xs. t.Array xs nulls) (list_of_values row.0 row.1 ∙ ap values_of (items_hidden-the_row-Value-1 values))

pub nested : (path : Path) (name : Option (List ℕ)) (columns : Box Columns Global) → column_of (Nested path name columns) ≡ t.Nested (path_of path) name (columns_of columns.value)
nested path name columns =
    let row = columns_in (Nested path name columns) in
    let last = t.Last (column_of columns.value.last) in
    ap (t.Nested (path_of path) name) (list_of_columns row.0 row.1 last ∙ ap (λ xs. columns_onto xs last) (items_hidden-the_row-Column-0 columns.value.before))

pub ruleset rows = (object, array, nested)
