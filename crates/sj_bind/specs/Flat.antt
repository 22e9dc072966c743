-- A table read flat: its paths and its columns at any depth, each in the order of the text. The paths are numbered from 0, and the
-- row path stands first. A nested path is no column.
use Rattle.std.specs.Prelude.{ℕ, ◌+◌, List, [], ◌∷◌, ◌++◌, Option, Some, None, length}
use Rattle.sj_path_tree.specs.Tree.{Path}
use Rattle.sj_sql_grammar.specs.declared.clauses.Passed.{Passed}
use Rattle.sj_sql_grammar.specs.Tree.{Table, Columns, Last, More, ColumnOf, Ordinality, Regular, Formatted, Existence, Nested, PlanTree}
use Rattle.sj_value.specs.declared.clauses.TableAction.{TableAction}

-- a path, its name if it has one, and the number of the path that it is nested in; the row path is nested in none
pub record TablePath : Type 0 where
  pub path : Path
  pub name : Option (List ℕ)
  pub parent : Option ℕ

-- a column, and the number of the path whose rows it is a column of
pub record TableColumn : Type 0 where
  pub path : ℕ
  pub column : ColumnOf Path

pub record FlatTable : Type 0 where
  pub passing : List Passed
  pub paths : List TablePath
  pub columns : List TableColumn
  pub plan : PlanTree
  pub on_error : TableAction

-- The nested paths of columns that stand under the path of number `parent`. The first of them has the number `next`.
abbrev mutual
  pub paths_in : (parent next : ℕ) → ColumnOf Path → List TablePath
  paths_in parent next (Ordinality name) = []
  paths_in parent next (Regular column) = []
  paths_in parent next (Formatted column) = []
  paths_in parent next (Existence name path _) = []
  paths_in parent next (Nested path name columns) = record { path = path; name = name; parent = Some parent } ∷ paths_below next (next + 1) columns

  pub paths_below : (parent next : ℕ) → Columns Path → List TablePath
  paths_below parent next (Last column) = paths_in parent next column
  paths_below parent next (More column others) = paths_in parent next column ++ paths_below parent (next + length (paths_in parent next column)) others

-- the columns, where the same numbers are given
abbrev mutual
  pub columns_in : (parent next : ℕ) → ColumnOf Path → List TableColumn
  columns_in parent next (Ordinality name) = record { path = parent; column = Ordinality name } ∷ []
  columns_in parent next (Regular column) = record { path = parent; column = Regular column } ∷ []
  columns_in parent next (Formatted column) = record { path = parent; column = Formatted column } ∷ []
  columns_in parent next (Existence name path on_error) = record { path = parent; column = Existence name path on_error } ∷ []
  columns_in parent next (Nested path name columns) = columns_below next (next + 1) columns

  pub columns_below : (parent next : ℕ) → Columns Path → List TableColumn
  columns_below parent next (Last column) = columns_in parent next column
  columns_below parent next (More column others) = columns_in parent next column ++ columns_below parent (next + length (paths_in parent next column)) others

abbrev pub flat : Table Path → FlatTable
flat table = record {
  passing = table.common.passing;
  paths = record { path = table.common.path; name = table.name; parent = None } ∷ paths_below 0 1 table.columns;
  columns = columns_below 0 1 table.columns;
  plan = table.plan;
  on_error = table.on_error;
}
