-- The rules on the number of columns and paths of a table, and on their names.
use Rattle.std.specs.Prelude.{ℕ, Bool, true, false, ◌&&◌, ◌||◌, List, [], ◌∷◌, map, is_none, length, nat_lt}
use Rattle.std.specs.List.{flat_map, list_any}
use Rattle.std.specs.Option.{option_to_list}
use Rattle.std.specs.Str.{bytes_eq}
use Rattle.sj_path_tree.specs.Tree.{Path}
use Rattle.sj_sql_grammar.specs.Tree.{ColumnOf, Ordinality, Regular, Formatted, Existence, Nested, PlanTree, Default, Named}
use Rattle.sj_bound.specs.Limits.{most_columns, most_paths}
use Rattle.sj_bind.specs.Flat.{TablePath, TableColumn, FlatTable}

-- the name of a column; a nested path stands in no list of columns
abbrev pub column_name : ColumnOf Path → List ℕ
column_name (Ordinality name) = name
column_name (Regular column) = column.name
column_name (Formatted column) = column.name
column_name (Existence name path _) = name
column_name (Nested path name columns) = []

abbrev pub names_of_columns : List TableColumn → List (List ℕ)
names_of_columns columns = map (λ c. column_name c.column) columns

abbrev pub column_names : FlatTable → List (List ℕ)
column_names table = names_of_columns table.columns

-- the names of the paths that have one
abbrev pub names_of_paths : List TablePath → List (List ℕ)
names_of_paths paths = flat_map (λ path. option_to_list path.name) paths

-- whether a name stands in the list twice, byte for byte
abbrev pub has_twice : List (List ℕ) → Bool
has_twice [] = false
has_twice (name ∷ others) = list_any (bytes_eq name) others || has_twice others

-- The rules. Each is true of a table that breaks it.

-- more columns or more paths than there may be
abbrev pub has_too_many : FlatTable → Bool
has_too_many table = nat_lt most_columns (length table.columns) || nat_lt most_paths (length table.paths)

-- two columns have equal names
abbrev pub has_column_twice : FlatTable → Bool
has_column_twice table = has_twice (column_names table)

-- two paths have equal names
abbrev pub has_path_name_twice : FlatTable → Bool
has_path_name_twice table = has_twice (names_of_paths table.paths)

-- whether a plan names paths
abbrev pub is_named : PlanTree → Bool
is_named (Default in_out siblings) = false
is_named (Named plan) = true

-- whether a path has no name
abbrev pub has_unnamed : List TablePath → Bool
has_unnamed paths = list_any (λ path. is_none path.name) paths

-- there is a plan with names, and a path that has none
abbrev pub lacks_path_name : FlatTable → Bool
lacks_path_name table = is_named table.plan && has_unnamed table.paths
