-- The phrases of statements: what a few tokens at the front say, and what follows them. Words that may be left out are
-- passed where they stand. `None` means that the phrase does not stand there.
use Rattle.std.specs.Prelude.{ℕ, Bool, true, false, ◌&&◌, nat_le, List, [], ◌∷◌, Option, Some, None, ℤ, neg_ℤ, unsigned_abs, codes, if◌then◌else◌}
use Rattle.std.specs.Str.{bytes_eq}
use Rattle.sj_base.specs.Options.{◌>>=◌}
use Rattle.sj_decimal.specs.Limits.{max_digits}
use Rattle.sj_path_tree.specs.declared.parts.Literal.{Literal}
use Rattle.sj_path_tree.specs.declared.parts.Literal.TheVariants as l
use Rattle.sj_value.specs.declared.types.SqlType.TheVariants as sql
use Rattle.sj_value.specs.declared.clauses.Wrapper.{Wrapper}
use Rattle.sj_value.specs.declared.clauses.Wrapper.TheVariants as wrapper
use Rattle.sj_value.specs.declared.clauses.QueryAction.{QueryAction}
use Rattle.sj_value.specs.declared.clauses.QueryAction.TheVariants as on_query
use Rattle.sj_value.specs.declared.clauses.ExistsAction.{ExistsAction}
use Rattle.sj_value.specs.declared.clauses.ExistsAction.TheVariants as on_exists
use Rattle.sj_value.specs.declared.clauses.TableAction.{TableAction}
use Rattle.sj_value.specs.declared.clauses.TableAction.TheVariants as on_table
use Rattle.sj_value.specs.declared.clauses.Nulls.{Nulls}
use Rattle.sj_value.specs.declared.clauses.Nulls.TheVariants as nulls
use Rattle.sj_value.specs.declared.clauses.JsonKind.{JsonKind}
use Rattle.sj_value.specs.declared.clauses.JsonKind.TheVariants as json
use Rattle.sj_sql_token.specs.declared.token.Token.{Token}
use Rattle.sj_sql_token.specs.declared.token.Token.TheVariants as k
use Rattle.sj_sql_token.specs.declared.keyword.Keyword.{Keyword}
use Rattle.sj_sql_token.specs.declared.keyword.Keyword.TheVariants as w
use Rattle.sj_sql_token.specs.Keywords.{is_reserved}
use Rattle.sj_sql_token.specs.Same.{same}
use Rattle.sj_sql_grammar.specs.declared.clauses.Encoding.{Encoding}
use Rattle.sj_sql_grammar.specs.declared.clauses.Encoding.TheVariants.{Read, Refused}
use Rattle.sj_sql_grammar.specs.declared.clauses.TypeName.{TypeName}
use Rattle.sj_sql_grammar.specs.declared.clauses.TypeName.TheVariants.{Known, Approximate, Datetime}
use Rattle.sj_sql_grammar.specs.declared.clauses.Passed.{Passed}
use Rattle.sj_sql_grammar.specs.declared.clauses.ValueDo.{ValueDo}
use Rattle.sj_sql_grammar.specs.declared.clauses.ValueDo.TheVariants as on_value
use Rattle.sj_sql_grammar.specs.declared.clauses.Quotes.{Quotes}
use Rattle.sj_sql_grammar.specs.declared.clauses.Quotes.TheVariants.{Keep, Omit}
use Rattle.sj_sql_grammar.specs.declared.clauses.InOut.{InOut}
use Rattle.sj_sql_grammar.specs.declared.clauses.InOut.TheVariants as in_out
use Rattle.sj_sql_grammar.specs.declared.clauses.Siblings.{Siblings}
use Rattle.sj_sql_grammar.specs.declared.clauses.Siblings.TheVariants as siblings
use Rattle.sj_sql_grammar.specs.Tree.{PathText, Written, PlanTree, Default}

abbrev pub Tokens : Type 0
Tokens = List Token

-- what stands there, and what follows it
abbrev pub Phrase : Type 0 → Type 0
Phrase A = Tokens → Option (A × Tokens)

-- goes on by f where there is something, and else by the last
abbrev pub if_some : {A B : Type 0} → Option A → (A → B) → B → B
if_some None f other = other
if_some (Some x) f other = f x

-- ---- single tokens

abbrev pub word : Keyword → Tokens → Option Tokens
word wanted [] = None
word wanted (k.Word v text ∷ ts) = if same v wanted then Some ts else None
word wanted (_ ∷ ts) = None

abbrev pub open_at : Tokens → Option Tokens
open_at (k.Open ∷ ts) = Some ts
open_at _ = None

abbrev pub close_at : Tokens → Option Tokens
close_at (k.Close ∷ ts) = Some ts
close_at _ = None

abbrev pub comma_at : Tokens → Option Tokens
comma_at (k.Comma ∷ ts) = Some ts
comma_at _ = None

abbrev pub colon_at : Tokens → Option Tokens
colon_at (k.Colon ∷ ts) = Some ts
colon_at _ = None

abbrev pub star_at : Tokens → Option Tokens
star_at (k.Star ∷ ts) = Some ts
star_at _ = None

abbrev pub string_at : Phrase (List ℕ)
string_at (k.String s ∷ ts) = Some (s, ts)
string_at _ = None

-- a whole number, written without a point; such a token has no decimals and no sign
abbrev pub count_at : Phrase ℕ
count_at (k.Whole d ∷ ts) = Some (unsigned_abs d.0, ts)
count_at _ = None

abbrev pub number_at : Phrase (ℤ × ℕ)
number_at (k.Whole d ∷ ts) = Some (d, ts)
number_at (k.Fraction d ∷ ts) = Some (d, ts)
number_at _ = None

-- a quoted name, or a word that is not reserved
abbrev pub name_at : Phrase (List ℕ)
name_at (k.Quoted n ∷ ts) = Some (n, ts)
name_at (k.Word v text ∷ ts) = if is_reserved v then None else Some (text, ts)
name_at _ = None

-- a name that is spelt doc, which no keyword is
abbrev pub doc_at : Tokens → Option Tokens
doc_at (k.Quoted n ∷ ts) = if bytes_eq n (codes "doc") then Some ts else None
doc_at (k.Word w.Other text ∷ ts) = if bytes_eq text (codes "doc") then Some ts else None
doc_at _ = None

-- a word with a meaning of its own
abbrev pub meant : {A : Type 0} → (Keyword → Option A) → Phrase A
meant f (k.Word v text ∷ ts) = f v >>= λ a. Some (a, ts)
meant f _ = None

-- a word that may be left out
abbrev pub skip_word : Keyword → Tokens → Tokens
skip_word v ts = if_some (word v ts) (λ rest. rest) ts

-- ---- literals and types

-- "TRUE" | "FALSE" | "NULL"
abbrev pub constant_of : Keyword → Option Literal
constant_of w.True = Some (l.Bool true)
constant_of w.False = Some (l.Bool false)
constant_of w.Null = Some l.Null
constant_of _ = None

abbrev pub negated : ℤ × ℕ → ℤ × ℕ
negated d = (neg_ℤ d.0, d.1)

-- literal = string | [ "+" | "-" ] number | "TRUE" | "FALSE" | "NULL"
unfoldable pub literal_at : Phrase Literal
literal_at [] = None
literal_at (k.String s ∷ ts) = Some (l.Text s, ts)
literal_at (k.Plus ∷ ts) = number_at ts >>= λ d. Some (l.Num d.0, d.1)
literal_at (k.Minus ∷ ts) = number_at ts >>= λ d. Some (l.Num (negated d.0), d.1)
literal_at (t ∷ ts) = if_some (number_at (t ∷ ts)) (λ d. Some (l.Num d.0, d.1)) (meant constant_of (t ∷ ts))

-- [ "(" number ")" ], which leaves no trace
abbrev pub sized : TypeName → Phrase TypeName
sized ty ts = if_some (open_at ts) (λ a. count_at a >>= λ n. close_at n.1 >>= λ rest. Some (ty, rest)) (Some (ty, ts))

-- the greatest n of VARCHAR(n)
abbrev pub max_varchar : ℕ
max_varchar = 1000000

-- [ "(" number ")" ], with 1 to the greatest
abbrev pub varchar_at : Phrase TypeName
varchar_at ts = if_some (open_at ts)
    (λ a. count_at a >>= λ n. close_at n.1 >>= λ rest. if nat_le 1 n.0 && nat_le n.0 max_varchar then Some (Known (sql.VarcharMax n.0), rest) else None)
    (Some (Known sql.Varchar, ts))

-- one digit at least, no more than an exact number may have, of which 0 to all are decimals, and ")"
abbrev pub fixed_at : ℕ → ℕ → Phrase TypeName
fixed_at p s ts = if nat_le 1 p && nat_le p max_digits && nat_le s p then (close_at ts >>= λ rest. Some (Known (sql.NumericFixed p s), rest)) else None

-- [ "(" number [ "," number ] ")" ]
abbrev pub numeric_at : Phrase TypeName
numeric_at ts = if_some (open_at ts)
    (λ a. count_at a >>= λ p. if_some (comma_at p.1) (λ b. count_at b >>= λ s. fixed_at p.0 s.0 s.1) (fixed_at p.0 0 p.1))
    (Some (Known sql.Numeric, ts))

-- behind the first word of a type
unfoldable pub type_from : Keyword → Phrase TypeName
type_from w.Varchar ts = varchar_at ts
type_from w.Numeric ts = numeric_at ts
type_from w.Decimal ts = numeric_at ts
type_from w.Integer ts = Some (Known sql.Integer, ts)
type_from w.Int ts = Some (Known sql.Integer, ts)
type_from w.Bigint ts = Some (Known sql.Bigint, ts)
type_from w.Boolean ts = Some (Known sql.Boolean, ts)
type_from w.Float ts = sized Approximate ts
type_from w.Real ts = Some (Approximate, ts)
type_from w.Double ts = word w.Precision ts >>= λ rest. Some (Approximate, rest)
type_from w.Date ts = Some (Datetime, ts)
type_from w.Time ts = sized Datetime ts
type_from w.Timestamp ts = sized Datetime ts
type_from _ ts = None

-- type
unfoldable pub type_at : Phrase TypeName
type_at (k.Word v text ∷ ts) = type_from v ts
type_at _ = None

-- ---- clauses of functions

-- encoding = "UTF8" | "UTF16" | "UTF32"
abbrev pub encoding_of : Keyword → Option Encoding
encoding_of w.Utf8 = Some Read
encoding_of w.Utf16 = Some Refused
encoding_of w.Utf32 = Some Refused
encoding_of _ = None

-- "ENCODING" encoding
unfoldable pub encoding_at : Phrase Encoding
encoding_at ts = word w.Encoding ts >>= meant encoding_of

-- "FORMAT" "JSON" [ "ENCODING" encoding ]
unfoldable pub format_at : Phrase Encoding
format_at ts = word w.Format ts >>= word w.Json >>= λ a. if_some (word w.Encoding a) (meant encoding_of) (Some (Read, a))

-- literal "AS" name
unfoldable pub passed_at : Phrase Passed
passed_at ts = literal_at ts >>= λ v. word w.As v.1 >>= name_at >>= λ n. Some (record { name = n.0; value = v.0 }, n.1)

-- "ON", and "EMPTY" or "ERROR"
abbrev pub cause_at : Keyword → Tokens → Option Tokens
cause_at cause ts = word w.On ts >>= word cause

-- an action, and its cause
abbrev pub on_at : {A : Type 0} → Keyword → Phrase A → Phrase A
on_at cause action ts = action ts >>= λ a. cause_at cause a.1 >>= λ rest. Some (a.0, rest)

abbrev pub exists_action_of : Keyword → Option ExistsAction
exists_action_of w.True = Some on_exists.True
exists_action_of w.False = Some on_exists.False
exists_action_of w.Unknown = Some on_exists.Unknown
exists_action_of w.Error = Some on_exists.Error
exists_action_of _ = None

-- ( "TRUE" | "FALSE" | "UNKNOWN" | "ERROR" ) "ON" "ERROR"
unfoldable pub exists_clause_at : Phrase ExistsAction
exists_clause_at ts = on_at w.Error (meant exists_action_of) ts

-- "RETURNING" type
unfoldable pub returning_at : Phrase TypeName
returning_at ts = word w.Returning ts >>= type_at

abbrev pub value_action_of : Keyword → Option ValueDo
value_action_of w.Error = Some on_value.Error
value_action_of w.Null = Some on_value.Null
value_action_of _ = None

-- vaction = "ERROR" | "NULL" | "DEFAULT" literal
abbrev pub value_action_at : Phrase ValueDo
value_action_at ts = if_some (word w.Default ts) (λ a. literal_at a >>= λ v. Some (on_value.Default v.0, v.1)) (meant value_action_of ts)

-- vaction "ON" "EMPTY", or "ERROR"
unfoldable pub value_clause_at : Keyword → Phrase ValueDo
value_clause_at cause ts = on_at cause value_action_at ts

abbrev pub query_action_of : Keyword → Option QueryAction
query_action_of w.Error = Some on_query.Error
query_action_of w.Null = Some on_query.Null
query_action_of _ = None

abbrev pub emptied_of : Keyword → Option QueryAction
emptied_of w.Array = Some on_query.EmptyArray
emptied_of w.Object = Some on_query.EmptyObject
emptied_of _ = None

-- qaction = "ERROR" | "NULL" | "EMPTY" "ARRAY" | "EMPTY" "OBJECT"
abbrev pub query_action_at : Phrase QueryAction
query_action_at ts = if_some (word w.Empty ts) (meant emptied_of) (meant query_action_of ts)

-- qaction "ON" "EMPTY", or "ERROR"
unfoldable pub query_clause_at : Keyword → Phrase QueryAction
query_clause_at cause ts = on_at cause query_action_at ts

abbrev pub condition_of : Keyword → Option Wrapper
condition_of w.Conditional = Some wrapper.Conditional
condition_of w.Unconditional = Some wrapper.Unconditional
condition_of _ = None

-- [ "ARRAY" ] "WRAPPER"
abbrev pub wrapped : Wrapper → Phrase Wrapper
wrapped x ts = word w.Wrapper (skip_word w.Array ts) >>= λ rest. Some (x, rest)

-- wrapper = "WITHOUT" [ "ARRAY" ] "WRAPPER" | "WITH" [ "CONDITIONAL" | "UNCONDITIONAL" ] [ "ARRAY" ] "WRAPPER"
unfoldable pub wrapper_at : Phrase Wrapper
wrapper_at ts = if_some (word w.Without ts) (wrapped wrapper.Without)
    (word w.With ts >>= λ a. if_some (meant condition_of a) (λ c. wrapped c.0 c.1) (wrapped wrapper.Unconditional a))

abbrev pub quotes_of : Keyword → Option Quotes
quotes_of w.Keep = Some Keep
quotes_of w.Omit = Some Omit
quotes_of _ = None

-- "ON" "SCALAR" "STRING"
abbrev pub on_scalar_string : Tokens → Option Tokens
on_scalar_string ts = word w.On ts >>= word w.Scalar >>= word w.String

-- quotes = ( "KEEP" | "OMIT" ) "QUOTES" [ "ON" "SCALAR" "STRING" ]
unfoldable pub quotes_at : Phrase Quotes
quotes_at ts = meant quotes_of ts >>= λ q. word w.Quotes q.1 >>= λ a.
    Some (q.0, if_some (on_scalar_string a) (λ rest. rest) a)

-- "NOT"
unfoldable pub not_at : Phrase Bool
not_at ts = word w.Not ts >>= λ rest. Some (true, rest)

abbrev pub kind_of : Keyword → Option JsonKind
kind_of w.Array = Some json.Array
kind_of w.Object = Some json.Object
kind_of w.Scalar = Some json.Scalar
kind_of _ = None

abbrev pub unique_of : Keyword → Option Bool
unique_of w.With = Some true
unique_of w.Without = Some false
unique_of _ = None

-- unique = ( "WITH" | "WITHOUT" ) "UNIQUE" [ "KEYS" ]
unfoldable pub unique_at : Phrase Bool
unique_at ts = meant unique_of ts >>= λ u. word w.Unique u.1 >>= λ a. Some (u.0, skip_word w.Keys a)

abbrev pub nulls_of : Keyword → Option Nulls
nulls_of w.Null = Some nulls.Null
nulls_of w.Absent = Some nulls.Absent
nulls_of _ = None

-- nulls = ( "NULL" | "ABSENT" ) "ON" "NULL"
unfoldable pub nulls_at : Phrase Nulls
nulls_at ts = on_at w.Null (meant nulls_of) ts

-- ---- names, paths and tables

-- "AS" name
unfoldable pub alias_at : Phrase (List ℕ)
alias_at ts = word w.As ts >>= name_at

-- [ "AS" ] name, of a table
unfoldable pub table_alias_at : Phrase (List ℕ)
table_alias_at ts = name_at (skip_word w.As ts)

-- "AS" name, of a path
unfoldable pub path_name_at : Phrase (Option (List ℕ))
path_name_at ts = alias_at ts >>= λ n. Some (Some n.0, n.1)

-- "PATH" string
unfoldable pub path_at : Phrase PathText
path_at ts = word w.Path ts >>= string_at >>= λ s. Some (Written s.0, s.1)

-- [ "PATH" ] string, of nested columns
unfoldable pub nested_path_at : Phrase PathText
nested_path_at ts = string_at (skip_word w.Path ts) >>= λ s. Some (Written s.0, s.1)

-- "VARCHAR" "FORMAT" "JSON"
unfoldable pub formatted_at : Tokens → Option Tokens
formatted_at ts = word w.Varchar ts >>= word w.Format >>= word w.Json

-- "BOOLEAN" "EXISTS"
unfoldable pub existence_at : Tokens → Option Tokens
existence_at ts = word w.Boolean ts >>= word w.Exists

abbrev pub table_action_of : Keyword → Option TableAction
table_action_of w.Empty = Some on_table.Empty
table_action_of w.Error = Some on_table.Error
table_action_of _ = None

-- ( "EMPTY" | "ERROR" ) "ON" "ERROR"
unfoldable pub table_clause_at : Phrase TableAction
table_clause_at ts = on_at w.Error (meant table_action_of) ts

abbrev pub in_out_of : Keyword → Option InOut
in_out_of w.Outer = Some in_out.Outer
in_out_of w.Inner = Some in_out.Inner
in_out_of _ = None

abbrev pub siblings_of : Keyword → Option Siblings
siblings_of w.Union = Some siblings.Union
siblings_of w.Cross = Some siblings.Cross
siblings_of _ = None

-- pdefault = inout [ "," sibs ] | sibs [ "," inout ]
unfoldable pub default_at : Phrase PlanTree
default_at ts = if_some (meant in_out_of ts)
    (λ i. if_some (comma_at i.1) (λ a. meant siblings_of a >>= λ s. Some (Default i.0 s.0, s.1)) (Some (Default i.0 siblings.Union, i.1)))
    (meant siblings_of ts >>= λ s. if_some (comma_at s.1) (λ a. meant in_out_of a >>= λ i. Some (Default i.0 s.0, i.1)) (Some (Default in_out.Outer s.0, s.1)))
