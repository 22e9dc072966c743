-- Which statements can be bound.
use Rattle.std.specs.Prelude.{◌≡◌, [], All as Each}
use Rattle.sj_path_tree.specs.Tree.{Path}
use Rattle.sj_sql_grammar.specs.declared.clauses.Encoding.{Encoding}
use Rattle.sj_sql_grammar.specs.declared.clauses.Encoding.TheVariants.{Read, Refused}
use Rattle.sj_sql_grammar.specs.Tree as t
use Rattle.sj_sql_grammar.specs.Tree.{Common, Value, Item, ColumnOf, Table, Statement, Plain, All, Listed}
use Rattle.sj_bind.specs.Clauses.{IsBindableType}
use Rattle.sj_bind.specs.Flat.{flat}
use Rattle.sj_bind.specs.Parts.{Call, exists_call, value_call, query_call, calls, calls_in_item, names_in}
use Rattle.sj_bind.specs.Rules.{all_columns}

-- UTF-8, which this implementation reads
abbrev pub IsRead : Encoding → Type 0
IsRead Read = Unit {0}
IsRead Refused = ⊥

-- a function has no encoding and no type that this implementation lacks, and items can be cast to its type
abbrev pub IsBindableCall : Call Path → Type 0
IsBindableCall (exists_call c) = IsRead c.common.encoding
IsBindableCall (value_call c) = IsRead c.common.encoding × IsBindableType c.ty
IsBindableCall (query_call c) = IsRead c.common.encoding

abbrev pub IsBindableColumn : ColumnOf Path → Type 0
IsBindableColumn (t.Ordinality name) = Unit {0}
IsBindableColumn (t.Regular c) = IsBindableType c.ty
IsBindableColumn (t.Formatted c) = IsRead c.encoding
IsBindableColumn (t.Existence name path _) = Unit {0}
IsBindableColumn (t.Nested path name columns) = Unit {0}

pub record IsBindableTable (table : Table Path) : Type 0 where
  pub encoding : IsRead table.common.encoding
  pub columns : Each IsBindableColumn (all_columns (flat table))

-- without a table no column stands in a value
abbrev pub HasNoColumn : Value Path → Type 0
HasNoColumn x = names_in x ≡ []

-- beside a table no function that has a path stands in an item
abbrev pub AsksNothing : Item Path → Type 0
AsksNothing x = calls_in_item x ≡ []

abbrev pub IsBindable : Statement Path → Type 0
IsBindable (Plain xs) = Each IsBindableCall (calls (Plain xs)) × Each HasNoColumn xs
IsBindable (All table) = IsBindableTable table
IsBindable (Listed xs table) = IsBindableTable table × Each AsksNothing xs
