-- The first rule that is broken, where the rules stand in groups.
use Rattle.std.specs.Prelude.{◌||◌, List, length, nat_lt, Option, Some, None, if◌then◌else◌}
use Rattle.std.specs.List.{list_any}
use Rattle.sj_path_tree.specs.Tree.{Path}
use Rattle.sj_sql_grammar.specs.declared.refusal.BindKind.{BindKind}
use Rattle.sj_sql_grammar.specs.declared.refusal.BindKind.TheVariants.{TooMany, ColumnTwice, PathNameTwice, PathNameMissing, PlanMismatch, VariableTwice, UnknownVariable, QuotesWithWrapper, DefaultCast, UnknownColumn, AggregateMixed, KeyType}
use Rattle.sj_sql_grammar.specs.Tree.{Item}
use Rattle.sj_bound.specs.Limits.{most_items}
use Rattle.sj_bind.specs.Flat.{FlatTable}
use Rattle.sj_bind.specs.Parts.{Call}
use Rattle.sj_bind.specs.Plans.{has_plan_mismatch}
use Rattle.sj_bind.specs.Rules.{call_passes_twice, call_lacks_variable, call_quotes_clash, call_default_fails, table_passes_twice, table_lacks_variable, column_quotes_clash, column_default_fails, all_columns, names_unknown, are_mixed, keys_wrong}
use Rattle.sj_bind.specs.Tables.{has_too_many, has_column_twice, has_path_name_twice, lacks_path_name}

-- the first of two
abbrev pub either : Option BindKind → Option BindKind → Option BindKind
either (Some kind) other = Some kind
either None other = other

abbrev pub calls_fault : List (Call Path) → Option BindKind
calls_fault cs =
    if list_any call_passes_twice cs then Some VariableTwice
    else (if list_any call_lacks_variable cs then Some UnknownVariable
    else (if list_any call_quotes_clash cs then Some QuotesWithWrapper
    else (if list_any call_default_fails cs then Some DefaultCast
    else None)))

-- the rules on names and the plan
abbrev pub names_fault : FlatTable → Option BindKind
names_fault t =
    if has_column_twice t then Some ColumnTwice
    else (if has_path_name_twice t then Some PathNameTwice
    else (if lacks_path_name t then Some PathNameMissing
    else (if has_plan_mismatch t then Some PlanMismatch
    else None)))

-- the rules on variables and columns
abbrev pub columns_fault : FlatTable → Option BindKind
columns_fault t =
    if table_passes_twice t then Some VariableTwice
    else (if table_lacks_variable t then Some UnknownVariable
    else (if list_any column_quotes_clash (all_columns t) then Some QuotesWithWrapper
    else (if list_any column_default_fails (all_columns t) then Some DefaultCast
    else None)))

-- the rules on the SELECT list
abbrev pub items_fault : List (Item Path) → FlatTable → Option BindKind
items_fault xs t =
    if names_unknown xs t then Some UnknownColumn
    else (if are_mixed xs then Some AggregateMixed
    else (if keys_wrong xs t then Some KeyType
    else None))

-- the rules on a table but for that on numbers
abbrev pub table_fault : FlatTable → Option BindKind
table_fault t = either (names_fault t) (columns_fault t)

-- the rules on `SELECT *`
abbrev pub all_fault : FlatTable → Option BindKind
all_fault t = if has_too_many t then Some TooMany else table_fault t

-- the rules on a list with a table
abbrev pub listed_fault : List (Item Path) → FlatTable → Option BindKind
listed_fault xs t = if (nat_lt most_items (length xs) || has_too_many t) then Some TooMany else either (table_fault t) (items_fault xs t)
