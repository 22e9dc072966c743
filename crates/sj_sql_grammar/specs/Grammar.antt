-- The grammar of statements, one constructor for each alternative of a rule. `IsValue s ts v rest` says that the tokens ts
-- begin with a spelling of the value v, and that rest follows it; the others say the same of theirs. A rule goes from list to list,
-- phrase by phrase, in the order of the text.
use Rattle.std.specs.Prelude.{◌≡◌, ℕ, ◌+◌, ◌≤◌, Bool, true, false, List, [], ◌∷◌, Option, Some, None}
use Rattle.sj_base.specs.Nesting.{LeavesOpen, NestsTooDeep}
use Rattle.sj_path_tree.specs.declared.parts.Literal.{Literal}
use Rattle.sj_value.specs.declared.types.SqlType.TheVariants as sql
use Rattle.sj_value.specs.declared.clauses.Wrapper.{Wrapper}
use Rattle.sj_value.specs.declared.clauses.Wrapper.TheVariants as wrapper
use Rattle.sj_value.specs.declared.clauses.QueryAction.{QueryAction}
use Rattle.sj_value.specs.declared.clauses.QueryAction.TheVariants as on_query
use Rattle.sj_value.specs.declared.clauses.ExistsAction.{ExistsAction}
use Rattle.sj_value.specs.declared.clauses.ExistsAction.TheVariants as on_exists
use Rattle.sj_value.specs.declared.clauses.TableAction.{TableAction}
use Rattle.sj_value.specs.declared.clauses.TableAction.TheVariants as on_table
use Rattle.sj_value.specs.declared.clauses.Nulls.{Nulls}
use Rattle.sj_value.specs.declared.clauses.Nulls.TheVariants as nulls
use Rattle.sj_value.specs.declared.clauses.JsonKind.{JsonKind}
use Rattle.sj_value.specs.declared.clauses.JsonKind.TheVariants as json
use Rattle.sj_sql_token.specs.declared.token.Token.{Token}
use Rattle.sj_sql_token.specs.declared.token.Token.TheVariants as k
use Rattle.sj_sql_token.specs.declared.keyword.Keyword.TheVariants as w
use Rattle.sj_sql_grammar.specs.declared.clauses.Encoding.{Encoding}
use Rattle.sj_sql_grammar.specs.declared.clauses.Encoding.TheVariants.{Read}
use Rattle.sj_sql_grammar.specs.declared.clauses.TypeName.{TypeName}
use Rattle.sj_sql_grammar.specs.declared.clauses.TypeName.TheVariants.{Known}
use Rattle.sj_sql_grammar.specs.declared.clauses.Passed.{Passed}
use Rattle.sj_sql_grammar.specs.declared.clauses.ValueDo.{ValueDo}
use Rattle.sj_sql_grammar.specs.declared.clauses.ValueDo.TheVariants as on_value
use Rattle.sj_sql_grammar.specs.declared.clauses.Quotes.{Quotes}
use Rattle.sj_sql_grammar.specs.declared.clauses.QueryClauses.{QueryClauses}
use Rattle.sj_sql_grammar.specs.declared.clauses.Quotes.TheVariants as quotes
use Rattle.sj_sql_grammar.specs.declared.clauses.IsJsonCall.{IsJsonCall}
use Rattle.sj_sql_grammar.specs.declared.clauses.InOut.TheVariants as in_out
use Rattle.sj_sql_grammar.specs.declared.clauses.Siblings.TheVariants as siblings
use Rattle.sj_sql_grammar.specs.Tree.{PathText, Written, OfName, Common, ExistsCall, ValueCall, QueryCall, Value, Lit, Column, Exists, ValueOf, Query, IsJson, Object, Array, Values, NoValues, MoreValues, Members, NoMembers, MoreMembers, Item, Single, ArrayAgg, ObjectAgg, ColumnOf, Ordinality, Regular, Formatted, Existence, Nested, Columns, Last, More, NamedPlan, PathOf, Outer, Inner, Union, Cross, PlanTree, Default, Named, Table, Statement, Plain, All, Listed}
use Rattle.sj_sql_grammar.specs.Phrases.{Tokens, Phrase, word, open_at, close_at, comma_at, colon_at, star_at, string_at, name_at, doc_at, literal_at, type_at, encoding_at, format_at, passed_at, exists_clause_at, returning_at, value_clause_at, query_clause_at, wrapper_at, quotes_at, not_at, meant, kind_of, unique_at, nulls_at, alias_at, table_alias_at, path_name_at, path_at, nested_path_at, formatted_at, existence_at, table_clause_at, default_at}

-- ---- what may stand, and what is repeated

-- [ phrase ], with what it stands for where it is left out
pub data IsOptional {A : Type 0} (phrase : Phrase A) (default : A) : Tokens → A → Tokens → Type 0 where
  there : {ts rest : Tokens} {x : A} → phrase ts ≡ Some (x, rest) → IsOptional phrase default ts x rest
  absent : {ts : Tokens} → IsOptional phrase default ts default ts

-- [ phrase ], which leaves no trace
pub data IsPassedOver {A : Type 0} (phrase : Phrase A) : Tokens → Tokens → Type 0 where
  passed : {ts rest : Tokens} {x : A} → phrase ts ≡ Some (x, rest) → IsPassedOver phrase ts rest
  missing : {ts : Tokens} → IsPassedOver phrase ts ts

-- one { "," one }
pub data IsList {A : Type 0} (IsOne : Tokens → A → Tokens → Type 0) : Tokens → List A → Tokens → Type 0 where
  last : {ts rest : Tokens} {x : A} → IsOne ts x rest → IsList IsOne ts (x ∷ []) rest
  more : {ts a b rest : Tokens} {x : A} {xs : List A} → IsOne ts x a → comma_at a ≡ Some b → IsList IsOne b xs rest → IsList IsOne ts (x ∷ xs) rest

-- ---- functions on the document

-- document = doc [ "FORMAT" "JSON" [ "ENCODING" encoding ] ]
pub data IsDocument : Tokens → Encoding → Tokens → Type 0 where
  doc : {ts a rest : Tokens} {x : Encoding} → doc_at ts ≡ Some a → IsOptional format_at Read a x rest → IsDocument ts x rest

abbrev pub IsPassed : Tokens → Passed → Tokens → Type 0
IsPassed ts x rest = passed_at ts ≡ Some (x, rest)

-- [ passing ], passing = "PASSING" literal "AS" name { "," literal "AS" name }
pub data IsPassing : Tokens → List Passed → Tokens → Type 0 where
  nothing : {ts : Tokens} → IsPassing ts [] ts
  variables : {ts a rest : Tokens} {xs : List Passed} → word w.Passing ts ≡ Some a → IsList IsPassed a xs rest → IsPassing ts xs rest

-- common = document "," string [ passing ]
pub data IsCommon : Tokens → Common PathText → Tokens → Type 0 where
  common : {ts a b c rest : Tokens} {x : Encoding} {path : List ℕ} {variables : List Passed}
      → IsDocument ts x a → comma_at a ≡ Some b → string_at b ≡ Some (path, c) → IsPassing c variables rest
      → IsCommon ts (record { encoding = x; path = Written path; passing = variables }) rest

-- exists = "JSON_EXISTS" "(" common [ .. "ON" "ERROR" ] ")"
pub data IsExistsCall : Tokens → ExistsCall PathText → Tokens → Type 0 where
  exists_call : {ts a b c d rest : Tokens} {x : Common PathText} {e : ExistsAction}
      → word w.JsonExists ts ≡ Some a → open_at a ≡ Some b → IsCommon b x c → IsOptional exists_clause_at on_exists.False c e d → close_at d ≡ Some rest
      → IsExistsCall ts (record { common = x; on_error = e }) rest

-- value = "JSON_VALUE" "(" common [ "RETURNING" type ] [ vaction "ON" "EMPTY" ] [ vaction "ON" "ERROR" ] ")"
pub data IsValueCall : Tokens → ValueCall PathText → Tokens → Type 0 where
  value_call : {ts a b c d e f rest : Tokens} {x : Common PathText} {ty : TypeName} {empty error : ValueDo}
      → word w.JsonValue ts ≡ Some a → open_at a ≡ Some b → IsCommon b x c → IsOptional returning_at (Known sql.Varchar) c ty d
      → IsOptional (value_clause_at w.Empty) on_value.Null d empty e → IsOptional (value_clause_at w.Error) on_value.Null e error f → close_at f ≡ Some rest
      → IsValueCall ts (record { common = x; ty = ty; on_empty = empty; on_error = error }) rest

-- qclauses = [ wrapper ] [ quotes ] [ qaction "ON" "EMPTY" ] [ qaction "ON" "ERROR" ]
pub data AreQueryClauses : Tokens → QueryClauses → Tokens → Type 0 where
  query_clauses : {ts a b c rest : Tokens} {wrap : Wrapper} {quote : Quotes} {empty error : QueryAction}
      → IsOptional wrapper_at wrapper.Without ts wrap a → IsOptional quotes_at quotes.Absent a quote b
      → IsOptional (query_clause_at w.Empty) on_query.Null b empty c → IsOptional (query_clause_at w.Error) on_query.Null c error rest
      → AreQueryClauses ts (record { wrapper = wrap; quotes = quote; on_empty = empty; on_error = error }) rest

-- query = "JSON_QUERY" "(" common qclauses ")"
pub data IsQueryCall : Tokens → QueryCall PathText → Tokens → Type 0 where
  query_call : {ts a b c d rest : Tokens} {x : Common PathText} {clauses : QueryClauses}
      → word w.JsonQuery ts ≡ Some a → open_at a ≡ Some b → IsCommon b x c → AreQueryClauses c clauses d → close_at d ≡ Some rest
      → IsQueryCall ts (record { common = x; clauses = clauses }) rest

-- [ "VALUE" | "ARRAY" | "OBJECT" | "SCALAR" ]; VALUE is meant where no word stands
pub data IsKind : Tokens → JsonKind → Tokens → Type 0 where
  value_kind : {ts rest : Tokens} → word w.Value ts ≡ Some rest → IsKind ts json.Value rest
  other_kind : {ts rest : Tokens} {x : JsonKind} → meant kind_of ts ≡ Some (x, rest) → IsKind ts x rest
  no_kind : {ts : Tokens} → IsKind ts json.Value ts

-- [ unique ] of an isjson: a unique clause that directly follows it is part of it
pub data IsOwnUnique : Tokens → Bool → Tokens → Type 0 where
  own : {ts rest : Tokens} {x : Bool} → unique_at ts ≡ Some (x, rest) → IsOwnUnique ts x rest
  none_follows : {ts : Tokens} → unique_at ts ≡ None → IsOwnUnique ts false ts

-- isjson = doc "IS" [ "NOT" ] "JSON" [ "VALUE" | "ARRAY" | "OBJECT" | "SCALAR" ] [ unique ]
pub data IsIsJson : Tokens → IsJsonCall → Tokens → Type 0 where
  is_json_call : {ts a b c d e rest : Tokens} {not unique : Bool} {kind : JsonKind}
      → doc_at ts ≡ Some a → word w.Is a ≡ Some b → IsOptional not_at false b not c → word w.Json c ≡ Some d → IsKind d kind e → IsOwnUnique e unique rest
      → IsIsJson ts (record { negated = not; kind = kind; unique = unique }) rest

-- ---- values

-- What values ask: the document, where a statement has no table, or else a row of the table. In the rules svalue, smember,
-- sobject and sarray are those of the document, and tvalue, tmember, tobject and tarray those of a row.
pub data Source : Type 0 where
  document : Source
  row : Source

mutual
  -- svalue = literal | exists | value | query | isjson | sobject | sarray, and tvalue = literal | name | tobject | tarray
  pub data IsValue : Source → Tokens → Value PathText → Tokens → Type 0 where
    literal : {s : Source} {ts rest : Tokens} {x : Literal} → literal_at ts ≡ Some (x, rest) → IsValue s ts (Lit x) rest
    column : {ts rest : Tokens} {name : List ℕ} → name_at ts ≡ Some (name, rest) → IsValue row ts (Column name) rest
    exists : {ts rest : Tokens} {x : ExistsCall PathText} → IsExistsCall ts x rest → IsValue document ts (Exists x) rest
    value : {ts rest : Tokens} {x : ValueCall PathText} → IsValueCall ts x rest → IsValue document ts (ValueOf x) rest
    query : {ts rest : Tokens} {x : QueryCall PathText} → IsQueryCall ts x rest → IsValue document ts (Query x) rest
    is_json : {ts rest : Tokens} {x : IsJsonCall} → IsIsJson ts x rest → IsValue document ts (IsJson x) rest
    -- object = "JSON_OBJECT" "(" [ member { "," member } [ nulls ] [ unique ] ] ")"
    no_object : {s : Source} {ts a b rest : Tokens} → word w.JsonObject ts ≡ Some a → open_at a ≡ Some b → close_at b ≡ Some rest
        → IsValue s ts (Object NoMembers nulls.Null false) rest
    object : {s : Source} {ts a b c d e rest : Tokens} {xs : Members PathText} {n : Nulls} {u : Bool} → word w.JsonObject ts ≡ Some a → open_at a ≡ Some b
        → IsMembers s b xs c → IsOptional nulls_at nulls.Null c n d → IsOptional unique_at false d u e → close_at e ≡ Some rest
        → IsValue s ts (Object xs n u) rest
    -- array = "JSON_ARRAY" "(" [ value { "," value } [ nulls ] ] ")"
    no_array : {s : Source} {ts a b rest : Tokens} → word w.JsonArray ts ≡ Some a → open_at a ≡ Some b → close_at b ≡ Some rest
        → IsValue s ts (Array NoValues nulls.Absent) rest
    array : {s : Source} {ts a b c d rest : Tokens} {xs : Values PathText} {n : Nulls} → word w.JsonArray ts ≡ Some a → open_at a ≡ Some b
        → IsValues s b xs c → IsOptional nulls_at nulls.Absent c n d → close_at d ≡ Some rest
        → IsValue s ts (Array xs n) rest

  -- value { "," value }
  pub data IsValues : Source → Tokens → Values PathText → Tokens → Type 0 where
    last_value : {s : Source} {ts rest : Tokens} {x : Value PathText} → IsValue s ts x rest → IsValues s ts (MoreValues x NoValues) rest
    more_values : {s : Source} {ts a b rest : Tokens} {x : Value PathText} {xs : Values PathText} → IsValue s ts x a → comma_at a ≡ Some b → IsValues s b xs rest
        → IsValues s ts (MoreValues x xs) rest

  -- member = [ "KEY" ] value "VALUE" value | value ":" value, of a key and a value
  pub data IsMember : Source → Tokens → Value PathText → Value PathText → Tokens → Type 0 where
    keyed : {s : Source} {ts a b c rest : Tokens} {x y : Value PathText} → word w.Key ts ≡ Some a → IsValue s a x b → word w.Value b ≡ Some c → IsValue s c y rest
        → IsMember s ts x y rest
    valued : {s : Source} {ts a b rest : Tokens} {x y : Value PathText} → IsValue s ts x a → word w.Value a ≡ Some b → IsValue s b y rest → IsMember s ts x y rest
    coloned : {s : Source} {ts a b rest : Tokens} {x y : Value PathText} → IsValue s ts x a → colon_at a ≡ Some b → IsValue s b y rest → IsMember s ts x y rest

  -- member { "," member }
  pub data IsMembers : Source → Tokens → Members PathText → Tokens → Type 0 where
    last_member : {s : Source} {ts rest : Tokens} {x y : Value PathText} → IsMember s ts x y rest → IsMembers s ts (MoreMembers x y NoMembers) rest
    more_members : {s : Source} {ts a b rest : Tokens} {x y : Value PathText} {xs : Members PathText} → IsMember s ts x y a → comma_at a ≡ Some b → IsMembers s b xs rest
        → IsMembers s ts (MoreMembers x y xs) rest

-- ---- tables

-- [ "PATH" string ] of a column: without it the column has the member path of its name
abbrev pub IsColumnPath : List ℕ → Tokens → PathText → Tokens → Type 0
IsColumnPath name = IsOptional path_at (OfName name)

mutual
  pub data IsColumn : Tokens → ColumnOf PathText → Tokens → Type 0 where
    -- name "FOR" "ORDINALITY"
    ordinality : {ts a b rest : Tokens} {name : List ℕ} → name_at ts ≡ Some (name, a) → word w.For a ≡ Some b → word w.Ordinality b ≡ Some rest
        → IsColumn ts (Ordinality name) rest
    -- name type [ "PATH" string ] [ vaction "ON" "EMPTY" ] [ vaction "ON" "ERROR" ]
    regular : {ts a b c d rest : Tokens} {name : List ℕ} {ty : TypeName} {path : PathText} {empty error : ValueDo}
        → name_at ts ≡ Some (name, a) → type_at a ≡ Some (ty, b) → IsColumnPath name b path c
        → IsOptional (value_clause_at w.Empty) on_value.Null c empty d → IsOptional (value_clause_at w.Error) on_value.Null d error rest
        → IsColumn ts (Regular (record { name = name; ty = ty; path = path; on_empty = empty; on_error = error })) rest
    -- name "VARCHAR" "FORMAT" "JSON" [ "ENCODING" encoding ] [ "PATH" string ] qclauses
    formatted : {ts a b c d rest : Tokens} {name : List ℕ} {x : Encoding} {path : PathText} {clauses : QueryClauses}
        → name_at ts ≡ Some (name, a) → formatted_at a ≡ Some b → IsOptional encoding_at Read b x c → IsColumnPath name c path d → AreQueryClauses d clauses rest
        → IsColumn ts (Formatted (record { name = name; encoding = x; path = path; clauses = clauses })) rest
    -- name "BOOLEAN" "EXISTS" [ "PATH" string ] [ ( "TRUE" | "FALSE" | "UNKNOWN" | "ERROR" ) "ON" "ERROR" ]
    existence : {ts a b c rest : Tokens} {name : List ℕ} {path : PathText} {error : ExistsAction}
        → name_at ts ≡ Some (name, a) → existence_at a ≡ Some b → IsColumnPath name b path c → IsOptional exists_clause_at on_exists.False c error rest
        → IsColumn ts (Existence name path error) rest
    -- "NESTED" [ "PATH" ] string [ "AS" name ] columns
    nested : {ts a b c rest : Tokens} {path : PathText} {name : Option (List ℕ)} {xs : Columns PathText}
        → word w.Nested ts ≡ Some a → nested_path_at a ≡ Some (path, b) → IsOptional path_name_at None b name c → IsColumns c xs rest
        → IsColumn ts (Nested path name xs) rest

  -- columns = "COLUMNS" "(" column { "," column } ")"
  pub data IsColumns : Tokens → Columns PathText → Tokens → Type 0 where
    columns : {ts a b c rest : Tokens} {xs : Columns PathText} → word w.Columns ts ≡ Some a → open_at a ≡ Some b → IsColumnList b xs c → close_at c ≡ Some rest
        → IsColumns ts xs rest

  pub data IsColumnList : Tokens → Columns PathText → Tokens → Type 0 where
    last_column : {ts rest : Tokens} {x : ColumnOf PathText} → IsColumn ts x rest → IsColumnList ts (Last x) rest
    more_columns : {ts a b rest : Tokens} {x : ColumnOf PathText} {xs : Columns PathText} → IsColumn ts x a → comma_at a ≡ Some b → IsColumnList b xs rest
        → IsColumnList ts (More x xs) rest

mutual
  -- pexpr = name | name ( "OUTER" | "INNER" ) pprim | pprim "UNION" pprim { "UNION" pprim } | pprim "CROSS" pprim { "CROSS" pprim }
  pub data IsPlanExpr : Tokens → NamedPlan → Tokens → Type 0 where
    lone : {ts rest : Tokens} {name : List ℕ} → name_at ts ≡ Some (name, rest) → IsPlanExpr ts (PathOf name) rest
    outer : {ts a b rest : Tokens} {name : List ℕ} {x : NamedPlan} → name_at ts ≡ Some (name, a) → word w.Outer a ≡ Some b → IsPlanPrim b x rest
        → IsPlanExpr ts (Outer name x) rest
    inner : {ts a b rest : Tokens} {name : List ℕ} {x : NamedPlan} → name_at ts ≡ Some (name, a) → word w.Inner a ≡ Some b → IsPlanPrim b x rest
        → IsPlanExpr ts (Inner name x) rest
    union : {ts a b c rest : Tokens} {x y p : NamedPlan} → IsPlanPrim ts x a → word w.Union a ≡ Some b → IsPlanPrim b y c → IsUnion (Union x y) c p rest
        → IsPlanExpr ts p rest
    cross : {ts a b c rest : Tokens} {x y p : NamedPlan} → IsPlanPrim ts x a → word w.Cross a ≡ Some b → IsPlanPrim b y c → IsCross (Cross x y) c p rest
        → IsPlanExpr ts p rest

  -- after the plans that make x: operators group to the left
  pub data IsUnion : NamedPlan → Tokens → NamedPlan → Tokens → Type 0 where
    union_end : {ts : Tokens} {x : NamedPlan} → IsUnion x ts x ts
    union_more : {ts a b rest : Tokens} {x y p : NamedPlan} → word w.Union ts ≡ Some a → IsPlanPrim a y b → IsUnion (Union x y) b p rest → IsUnion x ts p rest

  pub data IsCross : NamedPlan → Tokens → NamedPlan → Tokens → Type 0 where
    cross_end : {ts : Tokens} {x : NamedPlan} → IsCross x ts x ts
    cross_more : {ts a b rest : Tokens} {x y p : NamedPlan} → word w.Cross ts ≡ Some a → IsPlanPrim a y b → IsCross (Cross x y) b p rest → IsCross x ts p rest

  -- pprim = name | "(" pexpr ")"
  pub data IsPlanPrim : Tokens → NamedPlan → Tokens → Type 0 where
    plan_name : {ts rest : Tokens} {name : List ℕ} → name_at ts ≡ Some (name, rest) → IsPlanPrim ts (PathOf name) rest
    parens : {ts a b rest : Tokens} {p : NamedPlan} → open_at ts ≡ Some a → IsPlanExpr a p b → close_at b ≡ Some rest → IsPlanPrim ts p rest

-- how many operators UNION and CROSS a plan may have
abbrev pub max_operators : ℕ
max_operators = 63

-- how many it has
abbrev pub operators : NamedPlan → ℕ
operators (PathOf name) = 0
operators (Outer name p) = operators p
operators (Inner name p) = operators p
operators (Union p q) = 1 + operators p + operators q
operators (Cross p q) = 1 + operators p + operators q

-- [ plan ], plan = "PLAN" "(" pexpr ")" | "PLAN" "DEFAULT" "(" pdefault ")"; without it the default is OUTER and UNION
pub data IsPlan : Tokens → PlanTree → Tokens → Type 0 where
  named_plan : {ts a b c rest : Tokens} {p : NamedPlan} → word w.Plan ts ≡ Some a → open_at a ≡ Some b → IsPlanExpr b p c → close_at c ≡ Some rest → operators p ≤ max_operators
      → IsPlan ts (Named p) rest
  default_plan : {ts a b c d rest : Tokens} {p : PlanTree} → word w.Plan ts ≡ Some a → word w.Default a ≡ Some b → open_at b ≡ Some c → default_at c ≡ Some (p, d) → close_at d ≡ Some rest
      → IsPlan ts p rest
  no_plan : {ts : Tokens} → IsPlan ts (Default in_out.Outer siblings.Union) ts

-- table = "JSON_TABLE" "(" document "," string [ "AS" name ] [ passing ] columns [ plan ] [ .. "ON" "ERROR" ] ")" [ [ "AS" ] name ]
pub data IsTable : Tokens → Table PathText → Tokens → Type 0 where
  json_table : {ts a b c d e f g h i j m rest : Tokens} {x : Encoding} {path : List ℕ} {name : Option (List ℕ)} {variables : List Passed} {xs : Columns PathText} {p : PlanTree} {r : TableAction}
      → word w.JsonTable ts ≡ Some a → open_at a ≡ Some b → IsDocument b x c → comma_at c ≡ Some d → string_at d ≡ Some (path, e)
      → IsOptional path_name_at None e name f → IsPassing f variables g → IsColumns g xs h → IsPlan h p i → IsOptional table_clause_at on_table.Empty i r j
      → close_at j ≡ Some m → IsPassedOver table_alias_at m rest
      → IsTable ts (record { common = record { encoding = x; path = Written path; passing = variables }; name = name; columns = xs; plan = p; on_error = r }) rest

-- ---- statements

-- sitem = svalue [ "AS" name ]
pub data IsPlainItem : Tokens → Value PathText → Tokens → Type 0 where
  plain_item : {ts a rest : Tokens} {x : Value PathText} → IsValue document ts x a → IsPassedOver alias_at a rest → IsPlainItem ts x rest

-- tvalue | aggregate, aggregate = "JSON_ARRAYAGG" "(" tvalue [ nulls ] ")" | "JSON_OBJECTAGG" "(" tmember [ nulls ] [ unique ] ")"
pub data IsRowItem : Tokens → Item PathText → Tokens → Type 0 where
  single : {ts rest : Tokens} {x : Value PathText} → IsValue row ts x rest → IsRowItem ts (Single x) rest
  array_agg : {ts a b c d rest : Tokens} {x : Value PathText} {n : Nulls} → word w.JsonArrayAgg ts ≡ Some a → open_at a ≡ Some b → IsValue row b x c
      → IsOptional nulls_at nulls.Absent c n d → close_at d ≡ Some rest → IsRowItem ts (ArrayAgg x n) rest
  object_agg : {ts a b c d e rest : Tokens} {x y : Value PathText} {n : Nulls} {u : Bool} → word w.JsonObjectAgg ts ≡ Some a → open_at a ≡ Some b → IsMember row b x y c
      → IsOptional nulls_at nulls.Null c n d → IsOptional unique_at false d u e → close_at e ≡ Some rest → IsRowItem ts (ObjectAgg x y n u) rest

-- titem = ( tvalue | aggregate ) [ "AS" name ]
pub data IsListedItem : Tokens → Item PathText → Tokens → Type 0 where
  listed_item : {ts a rest : Tokens} {x : Item PathText} → IsRowItem ts x a → IsPassedOver alias_at a rest → IsListedItem ts x rest

abbrev pub is_open : Token → Bool
is_open k.Open = true
is_open _ = false

abbrev pub is_close : Token → Bool
is_close k.Close = true
is_close _ = false

abbrev pub IsDeepAt : Tokens → ℕ → Type 0
IsDeepAt ts n = LeavesOpen is_open is_close ts n

abbrev pub IsTooDeep : Tokens → Type 0
IsTooDeep ts = NestsTooDeep is_open is_close ts

-- statement = "SELECT" sitem { "," sitem } | "SELECT" "*" "FROM" table | "SELECT" titem { "," titem } "FROM" table,
-- where the tokens are those of one statement, without its semicolon
pub data IsSelect : Tokens → Statement PathText → Type 0 where
  plain : {ts a : Tokens} {xs : List (Value PathText)} → word w.Select ts ≡ Some a → IsList IsPlainItem a xs [] → IsSelect ts (Plain xs)
  all : {ts a b c : Tokens} {x : Table PathText} → word w.Select ts ≡ Some a → star_at a ≡ Some b → word w.From b ≡ Some c → IsTable c x [] → IsSelect ts (All x)
  listed : {ts a b c : Tokens} {xs : List (Item PathText)} {x : Table PathText} → word w.Select ts ≡ Some a → IsList IsListedItem a xs b → word w.From b ≡ Some c → IsTable c x []
      → IsSelect ts (Listed xs x)

-- a statement that opens too many parentheses has no tree
pub record IsStatement (ts : Tokens) (x : Statement PathText) : Type 0 where
  pub shallow : IsTooDeep ts → ⊥
  pub select : IsSelect ts x
