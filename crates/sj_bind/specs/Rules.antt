-- THE RULES of binding, in their order. Each is true of a statement that breaks it, and the first that is broken is the fault.
use Rattle.std.specs.Prelude.{ℕ, Bool, true, false, not, ◌&&◌, ◌||◌, List, [], ◌∷◌, map, length, nat_lt, Option, Some, None, if◌then◌else◌}
use Rattle.std.specs.List.{flat_map, list_any}
use Rattle.sj_base.specs.Names.{is_among}
use Rattle.sj_path_tree.specs.declared.parts.Literal.{Literal}
use Rattle.sj_path_tree.specs.declared.parts.Literal.TheVariants as literal
use Rattle.sj_path_tree.specs.Tree.{Path}
use Rattle.sj_path_tree.specs.Vars.{covers}
use Rattle.sj_sql_grammar.specs.declared.clauses.Passed.{Passed}
use Rattle.sj_sql_grammar.specs.declared.clauses.TypeName.{TypeName}
use Rattle.sj_sql_grammar.specs.declared.clauses.ValueDo.{ValueDo}
use Rattle.sj_sql_grammar.specs.declared.refusal.BindKind.{BindKind}
use Rattle.sj_sql_grammar.specs.declared.refusal.BindKind.TheVariants.{TooMany, ColumnTwice, PathNameTwice, PathNameMissing, PlanMismatch, VariableTwice, UnknownVariable, QuotesWithWrapper, DefaultCast, UnknownColumn, AggregateMixed, KeyType}
use Rattle.sj_sql_grammar.specs.Tree.{Common, Value, Lit, Column, Exists, ValueOf, Query, IsJson, Object, Array, Item, Single, ArrayAgg, ObjectAgg, ColumnOf, Ordinality, Regular, Formatted, Existence, Nested, Statement, Plain, All, Listed}
use Rattle.sj_bound.specs.Limits.{most_items}
use Rattle.sj_bind.specs.Clauses.{passed, passed_names, sql_type, names_text, default_fails, quotes_clash}
use Rattle.sj_bind.specs.Flat.{TablePath, TableColumn, FlatTable, flat}
use Rattle.sj_bind.specs.Parts.{Call, exists_call, value_call, query_call, call_common, calls, keys_in_list, keys_in_items, names_in_items}
use Rattle.sj_bind.specs.Plans.{has_plan_mismatch}
use Rattle.sj_bind.specs.Tables.{column_names, has_twice, has_too_many, has_column_twice, has_path_name_twice, lacks_path_name}

-- a rule on the table, if there is one
abbrev pub on_table : (FlatTable → Bool) → Statement Path → Bool
on_table rule (Plain xs) = false
on_table rule (All table) = rule (flat table)
on_table rule (Listed xs table) = rule (flat table)

-- the columns of a table, without the numbers of their paths
abbrev pub columns_alone : List TableColumn → List (ColumnOf Path)
columns_alone columns = map (λ c. c.column) columns

abbrev pub all_columns : FlatTable → List (ColumnOf Path)
all_columns table = columns_alone table.columns

-- the paths, without their names
abbrev pub paths_alone : List TablePath → List Path
paths_alone paths = map (λ p. p.path) paths

abbrev pub all_paths : FlatTable → List Path
all_paths table = paths_alone table.paths

-- ---- numbers

-- The list of `*` has the columns of the table, on which there is a rule of its own.
abbrev pub has_too_many_items : Statement Path → Bool
has_too_many_items (Plain xs) = nat_lt most_items (length xs)
has_too_many_items (All table) = false
has_too_many_items (Listed xs table) = nat_lt most_items (length xs)

-- more items of the SELECT list, more columns or more paths than there may be
abbrev pub too_many : Statement Path → Bool
too_many s = has_too_many_items s || on_table has_too_many s

-- ---- variables

-- a PASSING clause that names a variable twice
abbrev pub passes_twice : Common Path → Bool
passes_twice c = has_twice (passed_names c.passing)

abbrev pub call_passes_twice : Call Path → Bool
call_passes_twice c = passes_twice (call_common c)

abbrev pub table_passes_twice : FlatTable → Bool
table_passes_twice table = has_twice (passed_names table.passing)

abbrev pub variable_twice : Statement Path → Bool
variable_twice s = list_any call_passes_twice (calls s) || on_table table_passes_twice s

-- a path that has a variable that the PASSING clause does not name
abbrev pub lacks_variable : List Passed → Path → Bool
lacks_variable passing path = not (covers (passed passing) path)

abbrev pub call_lacks_variable : Call Path → Bool
call_lacks_variable c = lacks_variable (call_common c).passing (call_common c).path

abbrev pub column_lacks_variable : List Passed → ColumnOf Path → Bool
column_lacks_variable passing (Ordinality name) = false
column_lacks_variable passing (Regular c) = lacks_variable passing c.path
column_lacks_variable passing (Formatted c) = lacks_variable passing c.path
column_lacks_variable passing (Existence name path _) = lacks_variable passing path
column_lacks_variable passing (Nested path name columns) = false

-- the row path, a nested path or the path of a column
abbrev pub table_lacks_variable : FlatTable → Bool
table_lacks_variable table = list_any (lacks_variable table.passing) (all_paths table) || list_any (column_lacks_variable table.passing) (all_columns table)

abbrev pub unknown_variable : Statement Path → Bool
unknown_variable s = list_any call_lacks_variable (calls s) || on_table table_lacks_variable s

-- ---- QUOTES

abbrev pub call_quotes_clash : Call Path → Bool
call_quotes_clash (exists_call c) = false
call_quotes_clash (value_call c) = false
call_quotes_clash (query_call c) = quotes_clash c.clauses

abbrev pub column_quotes_clash : ColumnOf Path → Bool
column_quotes_clash (Ordinality name) = false
column_quotes_clash (Regular c) = false
column_quotes_clash (Formatted c) = quotes_clash c.clauses
column_quotes_clash (Existence name path _) = false
column_quotes_clash (Nested path name columns) = false

abbrev pub quotes_with_wrapper : Statement Path → Bool
quotes_with_wrapper s = list_any call_quotes_clash (calls s) || on_table (λ table. list_any column_quotes_clash (all_columns table)) s

-- ---- DEFAULT

-- a DEFAULT literal, of ON EMPTY or of ON ERROR, that cannot be cast to the type
abbrev pub defaults_fail : TypeName → ValueDo → ValueDo → Bool
defaults_fail ty on_empty on_error = default_fails (sql_type ty) on_empty || default_fails (sql_type ty) on_error

abbrev pub call_default_fails : Call Path → Bool
call_default_fails (exists_call c) = false
call_default_fails (value_call c) = defaults_fail c.ty c.on_empty c.on_error
call_default_fails (query_call c) = false

abbrev pub column_default_fails : ColumnOf Path → Bool
column_default_fails (Ordinality name) = false
column_default_fails (Regular c) = defaults_fail c.ty c.on_empty c.on_error
column_default_fails (Formatted c) = false
column_default_fails (Existence name path _) = false
column_default_fails (Nested path name columns) = false

abbrev pub default_cast : Statement Path → Bool
default_cast s = list_any call_default_fails (calls s) || on_table (λ table. list_any column_default_fails (all_columns table)) s

-- ---- names of columns

-- a name in the list that is no column of the table
abbrev pub names_unknown : List (Item Path) → FlatTable → Bool
names_unknown xs table = list_any (λ name. not (is_among (column_names table) name)) (names_in_items xs)

abbrev pub unknown_column : Statement Path → Bool
unknown_column (Plain xs) = false
unknown_column (All table) = false
unknown_column (Listed xs table) = names_unknown xs (flat table)

-- ---- aggregates

abbrev pub is_aggregate : Item Path → Bool
is_aggregate (Single x) = false
is_aggregate (ArrayAgg x _) = true
is_aggregate (ObjectAgg key x _ unique) = true

-- an item is an aggregate, and another is none
abbrev pub are_mixed : List (Item Path) → Bool
are_mixed xs = list_any is_aggregate xs && list_any (λ x. not (is_aggregate x)) xs

abbrev pub aggregate_mixed : Statement Path → Bool
aggregate_mixed (Plain xs) = false
aggregate_mixed (All table) = false
aggregate_mixed (Listed xs table) = are_mixed xs

-- ---- keys

-- the name of a column that is VARCHAR or VARCHAR(n) without FORMAT JSON
abbrev pub text_name : ColumnOf Path → List (List ℕ)
text_name (Ordinality name) = []
text_name (Regular c) = if names_text c.ty then c.name ∷ [] else []
text_name (Formatted c) = []
text_name (Existence name path _) = []
text_name (Nested path name columns) = []

abbrev pub text_names : List (ColumnOf Path) → List (List ℕ)
text_names columns = flat_map text_name columns

abbrev pub is_key_literal : Literal → Bool
is_key_literal (literal.Text s) = true
is_key_literal (literal.Num d) = false
is_key_literal (literal.Bool b) = false
is_key_literal literal.Null = true

-- A key is a string literal, NULL, one of those columns, or a JSON_VALUE that is VARCHAR or VARCHAR(n).
abbrev pub is_key : List (List ℕ) → Value Path → Bool
is_key texts (Lit x) = is_key_literal x
is_key texts (Column name) = is_among texts name
is_key texts (Exists c) = false
is_key texts (ValueOf c) = names_text c.ty
is_key texts (Query c) = false
is_key texts (IsJson c) = false
is_key texts (Object _ _ unique) = false
is_key texts (Array _ _) = false

abbrev pub keys_wrong : List (Item Path) → FlatTable → Bool
keys_wrong xs table = list_any (λ key. not (is_key (text_names (all_columns table)) key)) (keys_in_items xs)

abbrev pub key_type : Statement Path → Bool
key_type (Plain xs) = list_any (λ key. not (is_key [] key)) (keys_in_list xs)
key_type (All table) = false
key_type (Listed xs table) = keys_wrong xs (flat table)

-- ---- the first rule that is broken

abbrev pub bind_fault : Statement Path → Option BindKind
bind_fault s =
    if too_many s then Some TooMany
    else (if on_table has_column_twice s then Some ColumnTwice
    else (if on_table has_path_name_twice s then Some PathNameTwice
    else (if on_table lacks_path_name s then Some PathNameMissing
    else (if on_table has_plan_mismatch s then Some PlanMismatch
    else (if variable_twice s then Some VariableTwice
    else (if unknown_variable s then Some UnknownVariable
    else (if quotes_with_wrapper s then Some QuotesWithWrapper
    else (if default_cast s then Some DefaultCast
    else (if unknown_column s then Some UnknownColumn
    else (if aggregate_mixed s then Some AggregateMixed
    else (if key_type s then Some KeyType
    else None)))))))))))
