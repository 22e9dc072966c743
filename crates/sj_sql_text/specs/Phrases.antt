-- The pieces of what a statement has but values, columns and plans. Each definition puts the pieces of a part before those that
-- follow it, in the order of the grammar. Every clause that has a default is written out; QUOTES alone stands only where it stood.
use Rattle.std.specs.Prelude.{ℕ, Bool, true, false, List, [], ◌∷◌, Option, Some, None, codes}
use Rattle.sj_path_tree.specs.declared.parts.Literal.{Literal}
use Rattle.sj_path_tree.specs.declared.parts.Literal.TheVariants as l
use Rattle.sj_path_tree.specs.Tree.{Path}
use Rattle.sj_path_text.specs.Text.{path_text}
use Rattle.sj_value.specs.declared.types.SqlType.{SqlType}
use Rattle.sj_value.specs.declared.types.SqlType.TheVariants as sql
use Rattle.sj_value.specs.declared.clauses.Wrapper.{Wrapper}
use Rattle.sj_value.specs.declared.clauses.Wrapper.TheVariants as wrapper
use Rattle.sj_value.specs.declared.clauses.QueryAction.{QueryAction}
use Rattle.sj_value.specs.declared.clauses.QueryAction.TheVariants as on_query
use Rattle.sj_value.specs.declared.clauses.ExistsAction.{ExistsAction}
use Rattle.sj_value.specs.declared.clauses.ExistsAction.TheVariants as on_exists
use Rattle.sj_value.specs.declared.clauses.TableAction.{TableAction}
use Rattle.sj_value.specs.declared.clauses.TableAction.TheVariants as on_table
use Rattle.sj_value.specs.declared.clauses.Nulls.{Nulls}
use Rattle.sj_value.specs.declared.clauses.Nulls.TheVariants as nulls
use Rattle.sj_value.specs.declared.clauses.JsonKind.{JsonKind}
use Rattle.sj_value.specs.declared.clauses.JsonKind.TheVariants as json
use Rattle.sj_sql_grammar.specs.declared.clauses.Encoding.{Encoding}
use Rattle.sj_sql_grammar.specs.declared.clauses.Encoding.TheVariants.{Read, Refused}
use Rattle.sj_sql_grammar.specs.declared.clauses.TypeName.{TypeName}
use Rattle.sj_sql_grammar.specs.declared.clauses.TypeName.TheVariants.{Known, Approximate, Datetime}
use Rattle.sj_sql_grammar.specs.declared.clauses.Passed.{Passed}
use Rattle.sj_sql_grammar.specs.declared.clauses.ValueDo.{ValueDo}
use Rattle.sj_sql_grammar.specs.declared.clauses.ValueDo.TheVariants as on_value
use Rattle.sj_sql_grammar.specs.declared.clauses.Quotes.{Quotes}
use Rattle.sj_sql_grammar.specs.declared.clauses.Quotes.TheVariants.{Absent, Keep, Omit}
use Rattle.sj_sql_grammar.specs.declared.clauses.QueryClauses.{QueryClauses}
use Rattle.sj_sql_grammar.specs.declared.clauses.IsJsonCall.{IsJsonCall}
use Rattle.sj_sql_grammar.specs.Tree.{Common}
use Rattle.sj_sql_text.specs.Pieces.{Word, Call, Name, String, Number, Count, Close, Comma, Pieces}

abbrev pub word : List ℕ → Pieces → Pieces
word text ps = Word text ∷ ps

-- those behind the first, each behind a comma
abbrev pub each_behind : {A : Type 0} → (A → Pieces → Pieces) → List A → Pieces → Pieces
each_behind one [] ps = ps
each_behind one (x ∷ xs) ps = Comma ∷ one x (each_behind one xs ps)

-- one, or several with commas between them
abbrev pub listed : {A : Type 0} → (A → Pieces → Pieces) → List A → Pieces → Pieces
listed one [] ps = ps
listed one (x ∷ xs) ps = one x (each_behind one xs ps)

-- a comma, behind another part
abbrev pub comma_behind : Bool → Pieces → Pieces
comma_behind true ps = Comma ∷ ps
comma_behind false ps = ps

-- ---- literals, types and the document

abbrev pub literal_on : Literal → Pieces → Pieces
literal_on (l.Text s) ps = String s ∷ ps
literal_on (l.Num d) ps = Number d ∷ ps
literal_on (l.Bool true) ps = word (codes "TRUE") ps
literal_on (l.Bool false) ps = word (codes "FALSE") ps
literal_on l.Null ps = word (codes "NULL") ps

-- NUMERIC with digits always has its decimals
abbrev pub sql_type_on : SqlType → Pieces → Pieces
sql_type_on sql.Varchar ps = word (codes "VARCHAR") ps
sql_type_on (sql.VarcharMax n) ps = Call (codes "VARCHAR") ∷ Count n ∷ Close ∷ ps
sql_type_on sql.Numeric ps = word (codes "NUMERIC") ps
sql_type_on (sql.NumericFixed digits decimals) ps = Call (codes "NUMERIC") ∷ Count digits ∷ Comma ∷ Count decimals ∷ Close ∷ ps
sql_type_on sql.Integer ps = word (codes "INTEGER") ps
sql_type_on sql.Bigint ps = word (codes "BIGINT") ps
sql_type_on sql.Boolean ps = word (codes "BOOLEAN") ps

-- the last two are of no accepted statement; each has one of its spellings
abbrev pub type_on : TypeName → Pieces → Pieces
type_on (Known ty) ps = sql_type_on ty ps
type_on Approximate ps = word (codes "FLOAT") ps
type_on Datetime ps = word (codes "DATE") ps

abbrev pub returning_on : TypeName → Pieces → Pieces
returning_on ty ps = word (codes "RETURNING") (type_on ty ps)

-- the second is of no accepted statement
abbrev pub encoding_on : Encoding → Pieces → Pieces
encoding_on Read ps = ps
encoding_on Refused ps = word (codes "ENCODING") (word (codes "UTF16") ps)

abbrev pub document_on : Encoding → Pieces → Pieces
document_on Read ps = word (codes "doc") ps
document_on Refused ps = word (codes "doc") (word (codes "FORMAT") (word (codes "JSON") (encoding_on Refused ps)))

-- a path stands in a string
abbrev pub path_on : Path → Pieces → Pieces
path_on p ps = String (path_text p) ∷ ps

abbrev pub name_on : List ℕ → Pieces → Pieces
name_on name ps = Name name ∷ ps

abbrev pub path_name_on : Option (List ℕ) → Pieces → Pieces
path_name_on None ps = ps
path_name_on (Some name) ps = word (codes "AS") (name_on name ps)

abbrev pub passed_on : Passed → Pieces → Pieces
passed_on x ps = literal_on x.value (word (codes "AS") (name_on x.name ps))

abbrev pub passing_on : List Passed → Pieces → Pieces
passing_on [] ps = ps
passing_on (x ∷ xs) ps = word (codes "PASSING") (listed passed_on (x ∷ xs) ps)

abbrev pub common_on : Common Path → Pieces → Pieces
common_on c ps = document_on c.encoding (Comma ∷ path_on c.path (passing_on c.passing ps))

-- ---- clauses

abbrev pub on_empty : Pieces → Pieces
on_empty ps = word (codes "ON") (word (codes "EMPTY") ps)

abbrev pub on_error : Pieces → Pieces
on_error ps = word (codes "ON") (word (codes "ERROR") ps)

abbrev pub exists_action_on : ExistsAction → Pieces → Pieces
exists_action_on on_exists.True ps = word (codes "TRUE") ps
exists_action_on on_exists.False ps = word (codes "FALSE") ps
exists_action_on on_exists.Unknown ps = word (codes "UNKNOWN") ps
exists_action_on on_exists.Error ps = word (codes "ERROR") ps

abbrev pub exists_clause_on : ExistsAction → Pieces → Pieces
exists_clause_on action ps = exists_action_on action (on_error ps)

abbrev pub value_action_on : ValueDo → Pieces → Pieces
value_action_on on_value.Error ps = word (codes "ERROR") ps
value_action_on on_value.Null ps = word (codes "NULL") ps
value_action_on (on_value.Default x) ps = word (codes "DEFAULT") (literal_on x ps)

abbrev pub value_clauses_on : (empty error : ValueDo) → Pieces → Pieces
value_clauses_on empty error ps = value_action_on empty (on_empty (value_action_on error (on_error ps)))

abbrev pub wrapper_on : Wrapper → Pieces → Pieces
wrapper_on wrapper.Without ps = word (codes "WITHOUT") (word (codes "WRAPPER") ps)
wrapper_on wrapper.Conditional ps = word (codes "WITH") (word (codes "CONDITIONAL") (word (codes "WRAPPER") ps))
wrapper_on wrapper.Unconditional ps = word (codes "WITH") (word (codes "UNCONDITIONAL") (word (codes "WRAPPER") ps))

abbrev pub quotes_on : Quotes → Pieces → Pieces
quotes_on Absent ps = ps
quotes_on Keep ps = word (codes "KEEP") (word (codes "QUOTES") ps)
quotes_on Omit ps = word (codes "OMIT") (word (codes "QUOTES") ps)

abbrev pub query_action_on : QueryAction → Pieces → Pieces
query_action_on on_query.Error ps = word (codes "ERROR") ps
query_action_on on_query.Null ps = word (codes "NULL") ps
query_action_on on_query.EmptyArray ps = word (codes "EMPTY") (word (codes "ARRAY") ps)
query_action_on on_query.EmptyObject ps = word (codes "EMPTY") (word (codes "OBJECT") ps)

abbrev pub query_clauses_on : QueryClauses → Pieces → Pieces
query_clauses_on c ps = wrapper_on c.wrapper (quotes_on c.quotes (query_action_on c.on_empty (on_empty (query_action_on c.on_error (on_error ps)))))

abbrev pub unique_on : Bool → Pieces → Pieces
unique_on true ps = word (codes "WITH") (word (codes "UNIQUE") (word (codes "KEYS") ps))
unique_on false ps = word (codes "WITHOUT") (word (codes "UNIQUE") (word (codes "KEYS") ps))

abbrev pub nulls_on : Nulls → Pieces → Pieces
nulls_on nulls.Null ps = word (codes "NULL") (word (codes "ON") (word (codes "NULL") ps))
nulls_on nulls.Absent ps = word (codes "ABSENT") (word (codes "ON") (word (codes "NULL") ps))

abbrev pub not_on : Bool → Pieces → Pieces
not_on true ps = word (codes "NOT") ps
not_on false ps = ps

abbrev pub kind_on : JsonKind → Pieces → Pieces
kind_on json.Value ps = word (codes "VALUE") ps
kind_on json.Array ps = word (codes "ARRAY") ps
kind_on json.Object ps = word (codes "OBJECT") ps
kind_on json.Scalar ps = word (codes "SCALAR") ps

abbrev pub is_json_on : IsJsonCall → Pieces → Pieces
is_json_on c ps = word (codes "doc") (word (codes "IS") (not_on c.negated (word (codes "JSON") (kind_on c.kind (unique_on c.unique ps)))))

abbrev pub table_clause_on : TableAction → Pieces → Pieces
table_clause_on on_table.Empty ps = word (codes "EMPTY") (on_error ps)
table_clause_on on_table.Error ps = word (codes "ERROR") (on_error ps)
