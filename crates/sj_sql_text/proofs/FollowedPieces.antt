-- What a part of a statement puts before the pieces that follow it does not depend on them.
use Rattle.std.proofs.Common.{◌≡◌, ℕ, Bool, true, false, List, [], ◌∷◌, ◌++◌, Option, Some, None, refl, sym, ap, ◌∙◌, append_assoc}
use Rattle.sj_path_tree.specs.declared.parts.Literal.{Literal}
use Rattle.sj_path_tree.specs.declared.parts.Literal.TheVariants as l
use Rattle.sj_path_tree.specs.Tree.{Path}
use Rattle.sj_value.specs.declared.types.SqlType.TheVariants as sql
use Rattle.sj_value.specs.declared.clauses.Wrapper.{Wrapper}
use Rattle.sj_value.specs.declared.clauses.Wrapper.TheVariants as wrapper
use Rattle.sj_value.specs.declared.clauses.QueryAction.{QueryAction}
use Rattle.sj_value.specs.declared.clauses.QueryAction.TheVariants as on_query
use Rattle.sj_value.specs.declared.clauses.ExistsAction.{ExistsAction}
use Rattle.sj_value.specs.declared.clauses.ExistsAction.TheVariants as on_exists
use Rattle.sj_value.specs.declared.clauses.TableAction.{TableAction}
use Rattle.sj_value.specs.declared.clauses.TableAction.TheVariants as on_table
use Rattle.sj_value.specs.declared.clauses.Nulls.{Nulls}
use Rattle.sj_value.specs.declared.clauses.Nulls.TheVariants as nulls
use Rattle.sj_value.specs.declared.clauses.JsonKind.{JsonKind}
use Rattle.sj_value.specs.declared.clauses.JsonKind.TheVariants as json
use Rattle.sj_sql_grammar.specs.declared.clauses.Encoding.{Encoding}
use Rattle.sj_sql_grammar.specs.declared.clauses.Encoding.TheVariants.{Read, Refused}
use Rattle.sj_sql_grammar.specs.declared.clauses.TypeName.{TypeName}
use Rattle.sj_sql_grammar.specs.declared.clauses.TypeName.TheVariants.{Known}
use Rattle.sj_sql_grammar.specs.declared.clauses.Passed.{Passed}
use Rattle.sj_sql_grammar.specs.declared.clauses.ValueDo.{ValueDo}
use Rattle.sj_sql_grammar.specs.declared.clauses.ValueDo.TheVariants as on_value
use Rattle.sj_sql_grammar.specs.declared.clauses.Quotes.{Quotes}
use Rattle.sj_sql_grammar.specs.declared.clauses.Quotes.TheVariants as quotes
use Rattle.sj_sql_grammar.specs.declared.clauses.QueryClauses.{QueryClauses}
use Rattle.sj_sql_grammar.specs.declared.clauses.IsJsonCall.{IsJsonCall}
use Rattle.sj_sql_grammar.specs.declared.clauses.InOut.{InOut}
use Rattle.sj_sql_grammar.specs.declared.clauses.InOut.TheVariants as in_out
use Rattle.sj_sql_grammar.specs.declared.clauses.Siblings.{Siblings}
use Rattle.sj_sql_grammar.specs.declared.clauses.Siblings.TheVariants as siblings
use Rattle.sj_sql_grammar.specs.Tree.{Common, Value, Lit, Column, Exists, ValueOf, Query, IsJson, Object, Array, Values, NoValues, MoreValues, Members, NoMembers, MoreMembers, Item, Single, ArrayAgg, ObjectAgg, ExistsCall, ValueCall, QueryCall, RegularColumn, FormattedColumn, ColumnOf, Ordinality, Regular, Formatted, Existence, Nested, Columns, Last, More, NamedPlan, PathOf, Outer, Inner, Union, Cross, PlanTree, Default, Named, Table, Statement, Plain, All, Listed}
use Rattle.sj_sql_text.specs.Pieces.{Piece, Close, Pieces}
use Rattle.sj_sql_text.specs.Phrases as on
use Rattle.sj_sql_text.specs.Plans as plan
use Rattle.sj_sql_text.specs.Statements as s

-- f puts some pieces before what follows, and what follows changes none of them
pub record Puts (f : Pieces → Pieces) : Type 0 where
  pub puts : (ps : Pieces) → f ps ≡ f [] ++ ps

written : {f : Pieces → Pieces} → ((ps : Pieces) → f ps ≡ f [] ++ ps) → Puts f
written same = record { puts = same }

behind : {p : Piece} {f : Pieces → Pieces} → Puts f → Puts (λ ps. p ∷ f ps)
behind {p} x = record { puts = λ ps. ap (λ (l : Pieces). p ∷ l) (x.puts ps) }

both : {f h : Pieces → Pieces} → Puts f → Puts h → Puts (λ ps. f (h ps))
both {f} {h} x y = record {
  puts = λ ps. x.puts (h ps) ∙ ap (λ (l : Pieces). f [] ++ l) (y.puts ps) ∙ sym (append_assoc (f []) (h []) ps) ∙ ap (λ (l : Pieces). l ++ ps) (sym (x.puts (h [])));
}

closing : Puts (λ ps. Close ∷ ps)
closing = written (λ ps. refl)

-- ---- lists

others_put : {A : Type 0} {one : A → Pieces → Pieces} → ((x : A) → Puts (one x)) → (xs : List A) → Puts (on.each_behind one xs)
others_put each [] = written (λ ps. refl)
others_put each (x ∷ xs) = behind (both (each x) (others_put each xs))

list_puts : {A : Type 0} {one : A → Pieces → Pieces} → ((x : A) → Puts (one x)) → (xs : List A) → Puts (on.listed one xs)
list_puts each [] = written (λ ps. refl)
list_puts each (x ∷ xs) = both (each x) (others_put each xs)

comma_puts : (behind : Bool) → Puts (on.comma_behind behind)
comma_puts true = written (λ ps. refl)
comma_puts false = written (λ ps. refl)

-- ---- literals, types and the document

literal_puts : (x : Literal) → Puts (on.literal_on x)
literal_puts (l.Bool true) = written (λ ps. refl)
literal_puts (l.Bool false) = written (λ ps. refl)
literal_puts x = written (λ ps. refl)

type_puts : (ty : TypeName) → Puts (on.type_on ty)
type_puts (Known sql.Varchar) = written (λ ps. refl)
type_puts (Known ty) = written (λ ps. refl)
type_puts ty = written (λ ps. refl)

encoding_puts : (x : Encoding) → Puts (on.encoding_on x)
encoding_puts Read = written (λ ps. refl)
encoding_puts Refused = written (λ ps. refl)

document_puts : (x : Encoding) → Puts (on.document_on x)
document_puts Read = written (λ ps. refl)
document_puts Refused = written (λ ps. refl)

path_name_puts : (name : Option (List ℕ)) → Puts (on.path_name_on name)
path_name_puts None = written (λ ps. refl)
path_name_puts (Some name) = written (λ ps. refl)

passed_puts : (x : Passed) → Puts (on.passed_on x)
passed_puts x = both (literal_puts x.value) (written (λ ps. refl))

passing_puts : (xs : List Passed) → Puts (on.passing_on xs)
passing_puts [] = written (λ ps. refl)
passing_puts (x ∷ xs) = behind (list_puts passed_puts (x ∷ xs))

common_puts : (c : Common Path) → Puts (on.common_on c)
common_puts c = both (document_puts c.encoding) (behind (behind (passing_puts c.passing)))

-- ---- clauses

exists_clause_puts : (action : ExistsAction) → Puts (on.exists_clause_on action)
exists_clause_puts on_exists.True = written (λ ps. refl)
exists_clause_puts action = written (λ ps. refl)

value_action_puts : (action : ValueDo) → Puts (on.value_action_on action)
value_action_puts (on_value.Default x) = behind (literal_puts x)
value_action_puts action = written (λ ps. refl)

value_clauses_put : (empty error : ValueDo) → Puts (on.value_clauses_on empty error)
value_clauses_put empty error = both (value_action_puts empty) (behind (behind (both (value_action_puts error) (written (λ ps. refl)))))

wrapper_puts : (x : Wrapper) → Puts (on.wrapper_on x)
wrapper_puts wrapper.Without = written (λ ps. refl)
wrapper_puts x = written (λ ps. refl)

quotes_put : (x : Quotes) → Puts (on.quotes_on x)
quotes_put quotes.Absent = written (λ ps. refl)
quotes_put x = written (λ ps. refl)

query_action_puts : (action : QueryAction) → Puts (on.query_action_on action)
query_action_puts on_query.Error = written (λ ps. refl)
query_action_puts action = written (λ ps. refl)

query_clauses_put : (c : QueryClauses) → Puts (on.query_clauses_on c)
query_clauses_put c =
    both (wrapper_puts c.wrapper) (both (quotes_put c.quotes) (both (query_action_puts c.on_empty) (behind (behind (both (query_action_puts c.on_error) (written (λ ps. refl)))))))

unique_puts : (unique : Bool) → Puts (on.unique_on unique)
unique_puts true = written (λ ps. refl)
unique_puts false = written (λ ps. refl)

nulls_put : (x : Nulls) → Puts (on.nulls_on x)
nulls_put nulls.Null = written (λ ps. refl)
nulls_put nulls.Absent = written (λ ps. refl)

not_puts : (negated : Bool) → Puts (on.not_on negated)
not_puts true = written (λ ps. refl)
not_puts false = written (λ ps. refl)

kind_puts : (kind : JsonKind) → Puts (on.kind_on kind)
kind_puts json.Value = written (λ ps. refl)
kind_puts kind = written (λ ps. refl)

is_json_puts : (c : IsJsonCall) → Puts (on.is_json_on c)
is_json_puts c = behind (behind (both (not_puts c.negated) (behind (both (kind_puts c.kind) (unique_puts c.unique)))))

table_clause_puts : (action : TableAction) → Puts (on.table_clause_on action)
table_clause_puts on_table.Empty = written (λ ps. refl)
table_clause_puts on_table.Error = written (λ ps. refl)

-- ---- plans

enclosed_puts : {f : Pieces → Pieces} (alone : Bool) → Puts f → Puts (plan.alone_or_enclosed alone f)
enclosed_puts true x = x
enclosed_puts false x = behind (both x closing)

named_puts : (p : NamedPlan) → Puts (plan.named_on p)
named_puts (PathOf name) = written (λ ps. refl)
named_puts (Outer name p) = behind (behind (enclosed_puts (plan.is_name p) (named_puts p)))
named_puts (Inner name p) = behind (behind (enclosed_puts (plan.is_name p) (named_puts p)))
named_puts (Union a b) = both (enclosed_puts (plan.leads_union a) (named_puts a)) (behind (enclosed_puts (plan.is_name b) (named_puts b)))
named_puts (Cross a b) = both (enclosed_puts (plan.leads_cross a) (named_puts a)) (behind (enclosed_puts (plan.is_name b) (named_puts b)))

in_out_puts : (x : InOut) → Puts (plan.in_out_on x)
in_out_puts in_out.Outer = written (λ ps. refl)
in_out_puts in_out.Inner = written (λ ps. refl)

siblings_put : (x : Siblings) → Puts (plan.siblings_on x)
siblings_put siblings.Union = written (λ ps. refl)
siblings_put siblings.Cross = written (λ ps. refl)

plan_puts : (p : PlanTree) → Puts (plan.plan_on p)
plan_puts (Default x y) = behind (behind (behind (both (in_out_puts x) (behind (both (siblings_put y) closing)))))
plan_puts (Named p) = behind (behind (both (named_puts p) closing))

-- ---- values

exists_puts : (c : ExistsCall Path) → Puts (s.exists_on c)
exists_puts c = behind (both (common_puts c.common) (both (exists_clause_puts c.on_error) closing))

value_call_puts : (c : ValueCall Path) → Puts (s.value_call_on c)
value_call_puts c = behind (both (common_puts c.common) (behind (both (type_puts c.ty) (both (value_clauses_put c.on_empty c.on_error) closing))))

query_puts : (c : QueryCall Path) → Puts (s.query_on c)
query_puts c = behind (both (common_puts c.common) (both (query_clauses_put c.clauses) closing))

array_clause_puts : (values : Values Path) (clause : Nulls) → Puts (s.array_clause_on values clause)
array_clause_puts NoValues clause = written (λ ps. refl)
array_clause_puts (MoreValues x others) clause = nulls_put clause

object_clauses_put : (members : Members Path) (clause : Nulls) (unique : Bool) → Puts (s.object_clauses_on members clause unique)
object_clauses_put NoMembers clause unique = written (λ ps. refl)
object_clauses_put (MoreMembers key x others) clause unique = both (nulls_put clause) (unique_puts unique)

mutual
  value_puts : (x : Value Path) → Puts (s.value_on x)
  value_puts (Lit x) = literal_puts x
  value_puts (Column name) = written (λ ps. refl)
  value_puts (Exists c) = exists_puts c
  value_puts (ValueOf c) = value_call_puts c
  value_puts (Query c) = query_puts c
  value_puts (IsJson c) = is_json_puts c
  value_puts (Object members clause unique) = behind (both (members_put false members) (both (object_clauses_put members clause unique) closing))
  value_puts (Array values clause) = behind (both (values_put false values) (both (array_clause_puts values clause) closing))

  values_put : (behind : Bool) (xs : Values Path) → Puts (s.values_on behind xs)
  values_put _ NoValues = written (λ ps. refl)
  values_put comma (MoreValues x others) = both (comma_puts comma) (both (value_puts x) (values_put true others))

  members_put : (behind : Bool) (xs : Members Path) → Puts (s.members_on behind xs)
  members_put _ NoMembers = written (λ ps. refl)
  members_put comma (MoreMembers key x others) = both (comma_puts comma) (both (value_puts key) (behind (both (value_puts x) (members_put true others))))

item_puts : (x : Item Path) → Puts (s.item_on x)
item_puts (Single x) = value_puts x
item_puts (ArrayAgg x clause) = behind (both (value_puts x) (both (nulls_put clause) closing))
item_puts (ObjectAgg key x clause unique) = behind (both (value_puts key) (behind (both (value_puts x) (both (nulls_put clause) (both (unique_puts unique) closing)))))

-- ---- tables

regular_puts : (c : RegularColumn Path) → Puts (s.regular_on c)
regular_puts c = behind (both (type_puts c.ty) (behind (behind (value_clauses_put c.on_empty c.on_error))))

formatted_puts : (c : FormattedColumn Path) → Puts (s.formatted_on c)
formatted_puts c = behind (behind (behind (behind (both (encoding_puts c.encoding) (behind (behind (query_clauses_put c.clauses)))))))

mutual
  column_puts : (c : ColumnOf Path) → Puts (s.column_on c)
  column_puts (Ordinality name) = written (λ ps. refl)
  column_puts (Regular c) = regular_puts c
  column_puts (Formatted c) = formatted_puts c
  column_puts (Existence name path action) = behind (behind (behind (behind (behind (exists_clause_puts action)))))
  column_puts (Nested path name columns) = behind (behind (behind (both (path_name_puts name) (behind (behind (both (columns_put columns) closing))))))

  columns_put : (columns : Columns Path) → Puts (s.listed_columns_on columns)
  columns_put (Last c) = column_puts c
  columns_put (More c others) = both (column_puts c) (behind (columns_put others))

table_puts : (t : Table Path) → Puts (s.table_on t)
table_puts t =
    behind (both (document_puts t.common.encoding) (behind (behind (both (path_name_puts t.name) (both (passing_puts t.common.passing)
    (behind (behind (both (columns_put t.columns) (behind (both (plan_puts t.plan) (both (table_clause_puts t.on_error) closing)))))))))))

-- ---- statements

pub body_puts : (x : Statement Path) → Puts (s.body_on x)
body_puts (Plain values) = behind (list_puts value_puts values)
body_puts (All table) = behind (behind (behind (table_puts table)))
body_puts (Listed items table) = behind (both (list_puts item_puts items) (behind (table_puts table)))
