-- A value that is a constructor, by the list that it holds, and a column that is a nested path.
use Rattle.std.proofs.Common.{◌≡◌, ℕ, Bool, Option, List, Vec, Box, Global, sym, ap, ◌∙◌}
use Rattle.sj_path_tree.specs.declared.tree.Path.{Path}
use Rattle.sj_path_tree.specs.View.{path_of}
use Rattle.sj_value.specs.declared.clauses.Nulls.{Nulls}
use Rattle.sj_sql_grammar.specs.Tree as t
use Rattle.sj_sql_tree.specs.declared.tree.Member.{Member}
use Rattle.sj_sql_tree.specs.declared.tree.Value.{Value, Object, Array}
use Rattle.sj_sql_tree.specs.declared.tree.Column.{Column, Nested}
use Rattle.sj_sql_tree.specs.declared.tree.Columns.{Columns}
use Rattle.sj_sql_tree.specs.View.{value_of, values_of, members_of, column_of, columns_of}
use Rattle.sj_sql_tree.proofs.Rows.{object, array, nested}

pub is_object : {x : Value} (members : Vec Member Global) {nulls : Nulls} {unique : Bool} {lent : List Member} → x ≡ Object members nulls unique → lent ≡ members.items → value_of x ≡ t.Object (members_of lent) nulls unique
is_object members {nulls = nulls} {unique = unique} is same = ap value_of is ∙ object members nulls unique ∙ ap (λ xs. t.Object (members_of xs) nulls unique) (sym same)

pub is_array : {x : Value} (values : Vec Value Global) {nulls : Nulls} {lent : List Value} → x ≡ Array values nulls → lent ≡ values.items → value_of x ≡ t.Array (values_of lent) nulls
is_array values {nulls = nulls} is same = ap value_of is ∙ array values nulls ∙ ap (λ xs. t.Array (values_of xs) nulls) (sym same)

pub is_nested : {x : Column} (path : Path) (name : Option (List ℕ)) (columns : Box Columns Global) {lent : Columns} → x ≡ Nested path name columns → lent ≡ columns.value → column_of x ≡ t.Nested (path_of path) name (columns_of lent)
is_nested path name columns is same = ap column_of is ∙ nested path name columns ∙ ap (λ xs. t.Nested (path_of path) name (columns_of xs)) (sym same)
