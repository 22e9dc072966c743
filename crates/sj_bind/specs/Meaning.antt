-- WHAT A STATEMENT IS BOUND TO: each name is replaced by the number of its column, `*` by all columns, a DEFAULT literal by its
-- cast, QUOTES by whether it is OMIT, and PASSING by its list of variables.
use Rattle.std.specs.Prelude.{ℕ, zero, suc, List, [], ◌∷◌, ◌++◌, map, length, Some, None}
use Rattle.std.specs.List.{position_or_len}
use Rattle.std.specs.Str.{bytes_eq}
use Rattle.sj_path_tree.specs.Tree.{Path}
use Rattle.sj_sql_grammar.specs.Tree.{Value, Lit, Column, Exists, ValueOf, Query, IsJson, Object, Array, Values, NoValues, MoreValues, Members, NoMembers, MoreMembers, Item, Single, ArrayAgg, ObjectAgg, ColumnOf, Ordinality, Regular, Formatted, Existence, Nested, Statement, Plain, All, Listed}
use Rattle.sj_bound.specs.Bound as b
use Rattle.sj_bind.specs.Clauses.{passed, path_with, value_clauses, query_clauses}
use Rattle.sj_bind.specs.Flat.{TableColumn, FlatTable, flat}
use Rattle.sj_bind.specs.Plans.{table_plan}
use Rattle.sj_bind.specs.Rules.{all_paths}
use Rattle.sj_bind.specs.Tables.{column_names}

-- the number of the column with this name
abbrev pub column_number : List (List ℕ) → List ℕ → ℕ
column_number names name = position_or_len (bytes_eq name) names

-- ---- values, beside columns with these names

module _ (names : List (List ℕ)) where
  abbrev mutual
    pub bound_value : Value Path → b.Value
    bound_value (Lit x) = b.Lit x
    bound_value (Column name) = b.Column (column_number names name)
    bound_value (Exists c) = b.Exists (path_with c.common) c.on_error
    bound_value (ValueOf c) = b.ValueOf (path_with c.common) (value_clauses c.ty c.on_empty c.on_error)
    bound_value (Query c) = b.Query (path_with c.common) (query_clauses c.clauses)
    bound_value (IsJson c) = b.IsJson c
    bound_value (Object members on_null unique) = b.Object (bound_members members) on_null unique
    bound_value (Array values on_null) = b.Array (bound_values values) on_null

    pub bound_values : Values Path → b.Values
    bound_values NoValues = b.NoValues
    bound_values (MoreValues x others) = b.MoreValues (bound_value x) (bound_values others)

    pub bound_members : Members Path → b.Members
    bound_members NoMembers = b.NoMembers
    bound_members (MoreMembers key x others) = b.MoreMembers (bound_value key) (bound_value x) (bound_members others)

  abbrev pub bound_item : Item Path → b.Item
  bound_item (Single x) = b.Single (bound_value x)
  bound_item (ArrayAgg x on_null) = b.ArrayAgg (bound_value x) on_null
  bound_item (ObjectAgg key x on_null unique) = b.ObjectAgg (bound_value key) (bound_value x) on_null unique

  abbrev pub bound_items : List (Item Path) → List b.Item
  bound_items [] = []
  bound_items (x ∷ xs) = bound_item x ∷ bound_items xs

-- without a table
abbrev pub bound_list : List (Value Path) → List b.Item
bound_list [] = []
bound_list (x ∷ xs) = b.Single (bound_value [] x) ∷ bound_list xs

-- the columns with the numbers below n
abbrev pub columns_below : ℕ → List b.Item
columns_below zero = []
columns_below (suc n) = columns_below n ++ b.Single (b.Column n) ∷ []

-- ---- tables

-- A column of the path of this number. A nested path is no column, so it stands in no list of columns.
abbrev pub column_under : ℕ → ColumnOf Path → b.ColumnOf
column_under n (Ordinality name) = b.Ordinality n
column_under n (Regular c) = b.Regular n c.path (value_clauses c.ty c.on_empty c.on_error)
column_under n (Formatted c) = b.Formatted n c.path (query_clauses c.clauses)
column_under n (Existence name path on_error) = b.Existence n path on_error
column_under n (Nested path name columns) = b.Ordinality n

abbrev pub bound_column : TableColumn → b.ColumnOf
bound_column c = column_under c.path c.column

abbrev pub bound_columns : List TableColumn → List b.ColumnOf
bound_columns columns = map bound_column columns

abbrev pub bound_table : FlatTable → b.Table
bound_table t = record {
  paths = all_paths t;
  vars = passed t.passing;
  plan = table_plan t;
  on_error = t.on_error;
  columns = bound_columns t.columns;
}

-- ---- statements

abbrev pub bound : Statement Path → b.Bound
bound (Plain xs) = record { items = bound_list xs; table = None }
bound (All t) = record { items = columns_below (length (flat t).columns); table = Some (bound_table (flat t)) }
bound (Listed xs t) = record { items = bound_items (column_names (flat t)) xs; table = Some (bound_table (flat t)) }
