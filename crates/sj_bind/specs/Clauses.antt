-- What the clauses of a function or a column become: a DEFAULT literal by its cast, QUOTES by whether it is OMIT, and PASSING by
-- its variables.
use Rattle.std.specs.Prelude.{ℕ, Bool, true, false, ◌&&◌, List, [], ◌∷◌, is_err, unwrap_or}
use Rattle.std.specs.Result.{result_ok}
use Rattle.sj_path_tree.specs.declared.parts.Literal.{Literal}
use Rattle.sj_path_tree.specs.Tree.{Path}
use Rattle.sj_path_tree.specs.Vars.{Variables}
use Rattle.sj_step.specs.Literals.{literal_item}
use Rattle.sj_sql_grammar.specs.declared.clauses.Passed.{Passed}
use Rattle.sj_sql_grammar.specs.declared.clauses.QueryClauses.{QueryClauses}
use Rattle.sj_sql_grammar.specs.declared.clauses.Quotes.{Quotes}
use Rattle.sj_sql_grammar.specs.declared.clauses.Quotes.TheVariants as quotes
use Rattle.sj_sql_grammar.specs.declared.clauses.TypeName.{TypeName}
use Rattle.sj_sql_grammar.specs.declared.clauses.TypeName.TheVariants.{Known, Approximate, Datetime}
use Rattle.sj_sql_grammar.specs.declared.clauses.ValueDo.{ValueDo}
use Rattle.sj_sql_grammar.specs.declared.clauses.ValueDo.TheVariants as do_
use Rattle.sj_sql_grammar.specs.Tree.{Common}
use Rattle.sj_value.specs.Casts.{Cast, cast_of}
use Rattle.sj_value.specs.Types.{IsCastType}
use Rattle.sj_value.specs.declared.clauses.QuerySpec.{QuerySpec}
use Rattle.sj_value.specs.declared.clauses.ValueAction.{ValueAction}
use Rattle.sj_value.specs.declared.clauses.ValueAction.TheVariants as action
use Rattle.sj_value.specs.declared.clauses.ValueSpec.{ValueSpec}
use Rattle.sj_value.specs.declared.clauses.Wrapper.{Wrapper}
use Rattle.sj_value.specs.declared.clauses.Wrapper.TheVariants as wrapper
use Rattle.sj_value.specs.declared.types.SqlType.{SqlType}
use Rattle.sj_value.specs.declared.types.SqlType.TheVariants as types
use Rattle.sj_value.specs.declared.value.SqlValue.{SqlValue}
use Rattle.sj_value.specs.declared.value.SqlValue.TheVariants as value
use Rattle.sj_bound.specs.Bound.{PathWith}
use Rattle.sj_bound.specs.Sound.{is_text_type}

-- ---- PASSING

abbrev pub passed_names : List Passed → List (List ℕ)
passed_names [] = []
passed_names (p ∷ ps) = p.name ∷ passed_names ps

abbrev pub passed : List Passed → Variables
passed [] = []
passed (p ∷ ps) = (p.name, p.value) ∷ passed ps

abbrev pub path_with : Common Path → PathWith
path_with c = record { path = c.path; vars = passed c.passing }

-- ---- types

-- a type to which items can be cast
abbrev pub IsBindableType : TypeName → Type 0
IsBindableType (Known ty) = IsCastType ty
IsBindableType Approximate = ⊥
IsBindableType Datetime = ⊥

-- the type that a name names; a type that this implementation lacks stands in no bound statement
abbrev pub sql_type : TypeName → SqlType
sql_type (Known ty) = ty
sql_type Approximate = types.Varchar
sql_type Datetime = types.Varchar

abbrev pub names_text : TypeName → Bool
names_text (Known ty) = is_text_type ty
names_text Approximate = false
names_text Datetime = false

-- ---- DEFAULT

abbrev pub literal_cast : Literal → SqlType → Cast
literal_cast x ty = cast_of (literal_item x) ty

-- whether it is a DEFAULT literal that cannot be cast to the type
abbrev pub default_fails : SqlType → ValueDo → Bool
default_fails ty do_.Error = false
default_fails ty do_.Null = false
default_fails ty (do_.Default x) = is_err (literal_cast x ty)

-- the cast of a DEFAULT literal; where it is refused, there is no bound statement
abbrev pub default_value : Literal → SqlType → SqlValue
default_value x ty = unwrap_or (result_ok (literal_cast x ty)) value.Null

abbrev pub value_action : SqlType → ValueDo → ValueAction
value_action ty do_.Error = action.Error
value_action ty do_.Null = action.Null
value_action ty (do_.Default x) = action.Default (default_value x ty)

-- the clauses of a JSON_VALUE or of a regular column
abbrev pub value_clauses : TypeName → ValueDo → ValueDo → ValueSpec
value_clauses ty on_empty on_error = record { ty = sql_type ty; on_empty = value_action (sql_type ty) on_empty; on_error = value_action (sql_type ty) on_error }

-- ---- QUOTES and WRAPPER

abbrev pub is_omit : Quotes → Bool
is_omit quotes.Absent = false
is_omit quotes.Keep = false
is_omit quotes.Omit = true

-- whether there is a QUOTES clause
abbrev pub stands : Quotes → Bool
stands quotes.Absent = false
stands quotes.Keep = true
stands quotes.Omit = true

-- WITH WRAPPER, in both its forms
abbrev pub is_with : Wrapper → Bool
is_with wrapper.Without = false
is_with wrapper.Conditional = true
is_with wrapper.Unconditional = true

abbrev pub quotes_clash : QueryClauses → Bool
quotes_clash c = is_with c.wrapper && stands c.quotes

-- the clauses of a JSON_QUERY or of a column FORMAT JSON
abbrev pub query_clauses : QueryClauses → QuerySpec
query_clauses c = record { wrapper = c.wrapper; omit_quotes = is_omit c.quotes; on_empty = c.on_empty; on_error = c.on_error }
