-- Reading the tokens of a statement from left to right, with no way back. `None` means that no tree begins there. What is noted
-- of the tree is handed on from part to part.
use Rattle.std.specs.Prelude.{ℕ, zero, suc, Bool, true, false, not, ◌||◌, nat_le, List, [], ◌∷◌, length, Option, Some, None, is_some, if◌then◌else◌}
use Rattle.sj_base.specs.Options.{◌>>=◌}
use Rattle.sj_value.specs.declared.types.SqlType.TheVariants as sql
use Rattle.sj_value.specs.declared.clauses.Wrapper.TheVariants as wrapper
use Rattle.sj_value.specs.declared.clauses.QueryAction.TheVariants as on_query
use Rattle.sj_value.specs.declared.clauses.ExistsAction.TheVariants as on_exists
use Rattle.sj_value.specs.declared.clauses.TableAction.TheVariants as on_table
use Rattle.sj_value.specs.declared.clauses.Nulls.TheVariants as nulls
use Rattle.sj_value.specs.declared.clauses.JsonKind.{JsonKind}
use Rattle.sj_value.specs.declared.clauses.JsonKind.TheVariants as json
use Rattle.sj_sql_token.specs.declared.token.Token.TheVariants as k
use Rattle.sj_sql_token.specs.declared.keyword.Keyword.{Keyword}
use Rattle.sj_sql_token.specs.declared.keyword.Keyword.TheVariants as w
use Rattle.sj_sql_token.specs.Same.{same}
use Rattle.sj_sql_grammar.specs.declared.clauses.Encoding.{Encoding}
use Rattle.sj_sql_grammar.specs.declared.clauses.Encoding.TheVariants.{Read}
use Rattle.sj_sql_grammar.specs.declared.clauses.TypeName.TheVariants.{Known}
use Rattle.sj_sql_grammar.specs.declared.clauses.Passed.{Passed}
use Rattle.sj_sql_grammar.specs.declared.clauses.ValueDo.TheVariants as on_value
use Rattle.sj_sql_grammar.specs.declared.clauses.QueryClauses.{QueryClauses}
use Rattle.sj_sql_grammar.specs.declared.clauses.Quotes.TheVariants as quotes
use Rattle.sj_sql_grammar.specs.declared.clauses.IsJsonCall.{IsJsonCall}
use Rattle.sj_sql_grammar.specs.declared.clauses.InOut.TheVariants as in_out
use Rattle.sj_sql_grammar.specs.declared.clauses.Siblings.TheVariants as siblings
use Rattle.sj_sql_grammar.specs.Tree.{PathText, Written, OfName, Common, Value, Lit, Column, Exists, ValueOf, Query, IsJson, Object, Array, Values, NoValues, MoreValues, Members, NoMembers, MoreMembers, Item, Single, ArrayAgg, ObjectAgg, ColumnOf, Ordinality, Regular, Formatted, Existence, Nested, Columns, Last, More, NamedPlan, PathOf, Outer, Inner, Union, Cross, PlanTree, Default, Named, Table, Statement, Plain, All, Listed}
use Rattle.sj_sql_grammar.specs.Phrases.{Tokens, Phrase, if_some, word, open_at, close_at, comma_at, colon_at, star_at, string_at, name_at, doc_at, literal_at, type_at, encoding_at, format_at, passed_at, exists_clause_at, returning_at, value_clause_at, query_clause_at, wrapper_at, quotes_at, not_at, meant, kind_of, unique_at, nulls_at, alias_at, table_alias_at, path_name_at, path_at, nested_path_at, formatted_at, existence_at, table_clause_at, default_at}
use Rattle.sj_sql_grammar.specs.Grammar.{Source, document, row, operators, max_operators}
use Rattle.sj_sql_grammar.specs.Notes.{Notes, note_encoding, note_type}

-- ---- what may stand, and what is repeated

abbrev pub optional : {A : Type 0} → Phrase A → A → Phrase A
optional phrase default ts = if_some (phrase ts) (λ x. Some x) (Some (default, ts))

abbrev pub passed_over : {A : Type 0} → Phrase A → Tokens → Tokens
passed_over phrase ts = if_some (phrase ts) (λ x. x.1) ts

-- one { "," one }, with at most so many
unfoldable pub list_from : {A : Type 0} → Phrase A → ℕ → Phrase (List A)
list_from one zero ts = None
list_from one (suc n) ts = one ts >>= λ x. if_some (comma_at x.1) (λ a. list_from one n a >>= λ xs. Some (x.0 ∷ xs.0, xs.1)) (Some (x.0 ∷ [], x.1))

-- ---- what holds no path

unfoldable pub document_at : Phrase Encoding
document_at ts = doc_at ts >>= λ a. optional format_at Read a

unfoldable pub passing_at : Phrase (List Passed)
passing_at ts = if_some (word w.Passing ts) (λ a. list_from passed_at (length a) a) (Some ([], ts))

unfoldable pub query_clauses_at : Phrase QueryClauses
query_clauses_at ts = optional wrapper_at wrapper.Without ts >>= λ wrap. optional quotes_at quotes.Absent wrap.1 >>= λ quote.
    optional (query_clause_at w.Empty) on_query.Null quote.1 >>= λ empty. optional (query_clause_at w.Error) on_query.Null empty.1 >>= λ error.
    Some (record { wrapper = wrap.0; quotes = quote.0; on_empty = empty.0; on_error = error.0 }, error.1)

-- a word behind VALUE with which a value begins. NULL does, unless it begins NULL ON NULL.
abbrev pub begins_word : Keyword → Tokens → Bool
begins_word w.Null ts = not (is_some (word w.On ts))
begins_word w.True ts = true
begins_word w.False ts = true
begins_word w.JsonExists ts = true
begins_word w.JsonValue ts = true
begins_word w.JsonQuery ts = true
begins_word w.JsonObject ts = true
begins_word w.JsonArray ts = true
begins_word w.Other ts = true
begins_word _ ts = false

abbrev pub begins_value : Tokens → Bool
begins_value [] = false
begins_value (k.String s ∷ ts) = true
begins_value (k.Whole d ∷ ts) = true
begins_value (k.Fraction d ∷ ts) = true
begins_value (k.Plus ∷ ts) = true
begins_value (k.Minus ∷ ts) = true
begins_value (k.Quoted name ∷ ts) = true
begins_value (k.Word v text ∷ ts) = begins_word v ts
begins_value (_ ∷ ts) = false

-- VALUE is a kind, unless a value follows it
unfoldable pub kind_at : Phrase JsonKind
kind_at ts = if_some (word w.Value ts) (λ a. Some (json.Value, if begins_value a then ts else a)) (optional (meant kind_of) json.Value ts)

unfoldable pub is_json_at : Phrase IsJsonCall
is_json_at ts = doc_at ts >>= λ a. word w.Is a >>= λ b. optional not_at false b >>= λ not. word w.Json not.1 >>= λ d. kind_at d >>= λ kind. optional unique_at false kind.1 >>= λ unique.
    Some (record { negated = not.0; kind = kind.0; unique = unique.0 }, unique.1)

-- ---- plans

module _ (inner : Phrase NamedPlan) where
  unfoldable pub plan_parens_at : Phrase NamedPlan
  plan_parens_at a = inner a >>= λ p. close_at p.1 >>= λ rest. Some (p.0, rest)

  unfoldable pub plan_prim_at : Phrase NamedPlan
  plan_prim_at ts = if_some (open_at ts) plan_parens_at (name_at ts >>= λ name. Some (PathOf name.0, name.1))

  unfoldable pub union_from : ℕ → NamedPlan → Phrase NamedPlan
  union_from zero x ts = Some (x, ts)
  union_from (suc n) x ts = if_some (word w.Union ts) (λ a. plan_prim_at a >>= λ y. union_from n (Union x y.0) y.1) (Some (x, ts))

  unfoldable pub cross_from : ℕ → NamedPlan → Phrase NamedPlan
  cross_from zero x ts = Some (x, ts)
  cross_from (suc n) x ts = if_some (word w.Cross ts) (λ a. plan_prim_at a >>= λ y. cross_from n (Cross x y.0) y.1) (Some (x, ts))

  -- behind a plan that is no name alone
  unfoldable pub joined_at : NamedPlan → Phrase NamedPlan
  joined_at x ts = if_some (word w.Union ts) (λ a. plan_prim_at a >>= λ y. union_from (length y.1) (Union x y.0) y.1)
      (word w.Cross ts >>= λ a. plan_prim_at a >>= λ y. cross_from (length y.1) (Cross x y.0) y.1)

  -- behind a name
  unfoldable pub named_plan_at : List ℕ → Phrase NamedPlan
  named_plan_at name ts = if_some (word w.Outer ts) (λ a. plan_prim_at a >>= λ x. Some (Outer name x.0, x.1))
      (if_some (word w.Inner ts) (λ a. plan_prim_at a >>= λ x. Some (Inner name x.0, x.1))
      (optional (joined_at (PathOf name)) (PathOf name) ts))

  unfoldable pub plan_over : Phrase NamedPlan
  plan_over ts = if_some (open_at ts) (λ a. plan_parens_at a >>= λ x. joined_at x.0 x.1) (name_at ts >>= λ name. named_plan_at name.0 name.1)

-- with parentheses inside one another at most this deep
unfoldable pub plan_expr_at : ℕ → Phrase NamedPlan
plan_expr_at zero ts = None
plan_expr_at (suc n) ts = plan_over (plan_expr_at n) ts

abbrev pub few_operators : NamedPlan → Tokens → Option (PlanTree × Tokens)
few_operators p ts = if nat_le (operators p) max_operators then Some (Named p, ts) else None

unfoldable pub plan_at : Phrase PlanTree
plan_at ts = if_some (word w.Plan ts)
    (λ a. if_some (word w.Default a)
    (λ b. open_at b >>= λ c. default_at c >>= λ p. close_at p.1 >>= λ rest. Some (p.0, rest))
    (open_at a >>= λ b. plan_expr_at (suc (length b)) b >>= λ p. close_at p.1 >>= λ rest. few_operators p.0 rest))
    (Some (Default in_out.Outer siblings.Union, ts))

-- ---- what holds paths

-- the word FROM stands somewhere
abbrev pub has_from : Tokens → Bool
has_from [] = false
has_from (k.Word v text ∷ ts) = same v w.From || has_from ts
has_from (_ ∷ ts) = has_from ts

module _ {P F : Type 0} (n : Notes P F) where
  -- what was read, what is noted then, and what follows
  abbrev pub Noting : Type 0 → Type 0
  Noting A = F → Tokens → Option (A × F × Tokens)

  unfoldable pub common_at : Noting (Common P)
  common_at f ts = document_at ts >>= λ x. comma_at x.1 >>= λ b. string_at b >>= λ s. passing_at s.1 >>= λ v.
      Some (record { encoding = x.0; path = n.path_of (Written s.0); passing = v.0 }, n.see_path (Written s.0) (note_encoding n x.0 f), v.1)

  -- behind the name of each function

  unfoldable pub exists_from : Noting (Value P)
  exists_from f a = open_at a >>= λ b. common_at f b >>= λ x. optional exists_clause_at on_exists.False x.2 >>= λ e. close_at e.1 >>= λ rest.
      Some (Exists (record { common = x.0; on_error = e.0 }), x.1, rest)

  unfoldable pub value_from : Noting (Value P)
  value_from f a = open_at a >>= λ b. common_at f b >>= λ x. optional returning_at (Known sql.Varchar) x.2 >>= λ ty.
      optional (value_clause_at w.Empty) on_value.Null ty.1 >>= λ empty. optional (value_clause_at w.Error) on_value.Null empty.1 >>= λ error. close_at error.1 >>= λ rest.
      Some (ValueOf (record { common = x.0; ty = ty.0; on_empty = empty.0; on_error = error.0 }), note_type n ty.0 x.1, rest)

  unfoldable pub query_from : Noting (Value P)
  query_from f a = open_at a >>= λ b. common_at f b >>= λ x. query_clauses_at x.2 >>= λ clauses. close_at clauses.1 >>= λ rest.
      Some (Query (record { common = x.0; clauses = clauses.0 }), x.1, rest)

  module _ (inner : Noting (Value P)) where
    unfoldable pub values_from : ℕ → Noting (Values P)
    values_from zero f ts = None
    values_from (suc m) f ts = inner f ts >>= λ x. if_some (comma_at x.2) (λ a. values_from m x.1 a >>= λ xs. Some (MoreValues x.0 xs.0, xs.1, xs.2))
        (Some (MoreValues x.0 NoValues, x.1, x.2))

    -- behind the key of a member
    unfoldable pub member_value_at : Value P → Noting (Value P × Value P)
    member_value_at x f ts = inner f ts >>= λ y. Some ((x, y.0), y.1, y.2)

    unfoldable pub keyed_at : Noting (Value P × Value P)
    keyed_at f a = inner f a >>= λ x. word w.Value x.2 >>= λ b. member_value_at x.0 x.1 b

    unfoldable pub valued_at : Noting (Value P × Value P)
    valued_at f ts = inner f ts >>= λ x. if_some (word w.Value x.2) (λ b. member_value_at x.0 x.1 b) (colon_at x.2 >>= λ b. member_value_at x.0 x.1 b)

    unfoldable pub member_at : Noting (Value P × Value P)
    member_at f ts = if_some (word w.Key ts) (λ a. keyed_at f a) (valued_at f ts)

    unfoldable pub members_from : ℕ → Noting (Members P)
    members_from zero f ts = None
    members_from (suc m) f ts = member_at f ts >>= λ x. if_some (comma_at x.2) (λ a. members_from m x.1 a >>= λ xs. Some (MoreMembers x.0.0 x.0.1 xs.0, xs.1, xs.2))
        (Some (MoreMembers x.0.0 x.0.1 NoMembers, x.1, x.2))

    unfoldable pub members_to_end : Noting (Value P)
    members_to_end f b = members_from (length b) f b >>= λ xs. optional nulls_at nulls.Null xs.2 >>= λ z. optional unique_at false z.1 >>= λ u. close_at u.1 >>= λ rest.
        Some (Object xs.0 z.0 u.0, xs.1, rest)

    unfoldable pub object_from : Noting (Value P)
    object_from f a = open_at a >>= λ b. if_some (close_at b) (λ rest. Some (Object NoMembers nulls.Null false, f, rest)) (members_to_end f b)

    unfoldable pub values_to_end : Noting (Value P)
    values_to_end f b = values_from (length b) f b >>= λ xs. optional nulls_at nulls.Absent xs.2 >>= λ z. close_at z.1 >>= λ rest. Some (Array xs.0 z.0, xs.1, rest)

    unfoldable pub array_from : Noting (Value P)
    array_from f a = open_at a >>= λ b. if_some (close_at b) (λ rest. Some (Array NoValues nulls.Absent, f, rest)) (values_to_end f b)

  -- what is a value of the document alone, or of a row alone
  unfoldable pub asking_at : Source → Noting (Value P)
  asking_at document f ts = if_some (word w.JsonExists ts) (λ a. exists_from f a) (if_some (word w.JsonValue ts) (λ a. value_from f a)
      (if_some (word w.JsonQuery ts) (λ a. query_from f a) (is_json_at ts >>= λ c. Some (IsJson c.0, f, c.1))))
  asking_at row f ts = name_at ts >>= λ name. Some (Column name.0, f, name.1)

  unfoldable pub value_over : Source → Noting (Value P) → Noting (Value P)
  value_over s inner f ts = if_some (literal_at ts) (λ x. Some (Lit x.0, f, x.1))
      (if_some (word w.JsonObject ts) (λ a. object_from inner f a) (if_some (word w.JsonArray ts) (λ a. array_from inner f a) (asking_at s f ts)))

  -- with constructors inside one another at most this deep
  unfoldable pub value_at : Source → ℕ → Noting (Value P)
  value_at s zero f ts = None
  value_at s (suc m) f ts = value_over s (value_at s m) f ts

  -- ---- tables

  abbrev pub column_path_at : List ℕ → Phrase PathText
  column_path_at name = optional path_at (OfName name)

  unfoldable pub regular_at : List ℕ → Noting (ColumnOf P)
  regular_at name f ts = type_at ts >>= λ ty. column_path_at name ty.1 >>= λ path.
      optional (value_clause_at w.Empty) on_value.Null path.1 >>= λ empty. optional (value_clause_at w.Error) on_value.Null empty.1 >>= λ error.
      Some (Regular (record { name = name; ty = ty.0; path = n.path_of path.0; on_empty = empty.0; on_error = error.0 }), n.see_path path.0 (note_type n ty.0 f), error.1)

  unfoldable pub formatted_from : List ℕ → Noting (ColumnOf P)
  formatted_from name f ts = optional encoding_at Read ts >>= λ x. column_path_at name x.1 >>= λ path. query_clauses_at path.1 >>= λ clauses.
      Some (Formatted (record { name = name; encoding = x.0; path = n.path_of path.0; clauses = clauses.0 }), n.see_path path.0 (note_encoding n x.0 f), clauses.1)

  unfoldable pub existence_from : List ℕ → Noting (ColumnOf P)
  existence_from name f ts = column_path_at name ts >>= λ path. optional exists_clause_at on_exists.False path.1 >>= λ error.
      Some (Existence name (n.path_of path.0) error.0, n.see_path path.0 f, error.1)

  -- behind the name of a column
  unfoldable pub named_column_at : List ℕ → Noting (ColumnOf P)
  named_column_at name f ts = if_some (word w.For ts) (λ a. word w.Ordinality a >>= λ rest. Some (Ordinality name, f, rest))
      (if_some (formatted_at ts) (λ a. formatted_from name f a)
      (if_some (existence_at ts) (λ a. existence_from name f a) (regular_at name f ts)))

  module _ (inner : Noting (Columns P)) where
    unfoldable pub nested_from : Noting (ColumnOf P)
    nested_from f a = nested_path_at a >>= λ path. optional path_name_at None path.1 >>= λ name. inner (n.see_path path.0 f) name.1 >>= λ xs.
        Some (Nested (n.path_of path.0) name.0 xs.0, xs.1, xs.2)

    unfoldable pub column_at : Noting (ColumnOf P)
    column_at f ts = if_some (word w.Nested ts) (λ a. nested_from f a) (name_at ts >>= λ name. named_column_at name.0 f name.1)

    unfoldable pub columns_from : ℕ → Noting (Columns P)
    columns_from zero f ts = None
    columns_from (suc m) f ts = column_at f ts >>= λ x. if_some (comma_at x.2) (λ a. columns_from m x.1 a >>= λ xs. Some (More x.0 xs.0, xs.1, xs.2)) (Some (Last x.0, x.1, x.2))

    unfoldable pub columns_over : Noting (Columns P)
    columns_over f ts = word w.Columns ts >>= λ a. open_at a >>= λ b. columns_from (length b) f b >>= λ xs. close_at xs.2 >>= λ rest. Some (xs.0, xs.1, rest)

  -- with columns inside one another at most this deep
  unfoldable pub columns_at : ℕ → Noting (Columns P)
  columns_at zero f ts = None
  columns_at (suc m) f ts = columns_over (columns_at m) f ts

  -- the document and the row path of a table
  unfoldable pub row_path_at : Noting (Common P × Option (List ℕ))
  row_path_at f ts = document_at ts >>= λ x. comma_at x.1 >>= λ d. string_at d >>= λ s. optional path_name_at None s.1 >>= λ name. passing_at name.1 >>= λ v.
      Some ((record { encoding = x.0; path = n.path_of (Written s.0); passing = v.0 }, name.0), n.see_path (Written s.0) (note_encoding n x.0 f), v.1)

  unfoldable pub table_at : Noting (Table P)
  table_at f ts = word w.JsonTable ts >>= λ a. open_at a >>= λ b. row_path_at f b >>= λ x. columns_at (suc (length x.2)) x.1 x.2 >>= λ xs. plan_at xs.2 >>= λ p.
      optional table_clause_at on_table.Empty p.1 >>= λ r. close_at r.1 >>= λ m.
      Some (record { common = x.0.0; name = x.0.1; columns = xs.0; plan = p.0; on_error = r.0 }, xs.1, passed_over table_alias_at m)

  -- ---- statements

  unfoldable pub plain_item_at : Noting (Value P)
  plain_item_at f ts = value_at document (suc (length ts)) f ts >>= λ x. Some (x.0, x.1, passed_over alias_at x.2)

  unfoldable pub array_agg_from : Noting (Item P)
  array_agg_from f a = open_at a >>= λ b. value_at row (suc (length b)) f b >>= λ x. optional nulls_at nulls.Absent x.2 >>= λ z. close_at z.1 >>= λ rest.
      Some (ArrayAgg x.0 z.0, x.1, rest)

  unfoldable pub object_agg_from : Noting (Item P)
  object_agg_from f a = open_at a >>= λ b. member_at (value_at row (suc (length b))) f b >>= λ x. optional nulls_at nulls.Null x.2 >>= λ z. optional unique_at false z.1 >>= λ u. close_at u.1 >>= λ rest.
      Some (ObjectAgg x.0.0 x.0.1 z.0 u.0, x.1, rest)

  unfoldable pub row_item_at : Noting (Item P)
  row_item_at f ts = if_some (word w.JsonArrayAgg ts) (λ a. array_agg_from f a) (if_some (word w.JsonObjectAgg ts) (λ a. object_agg_from f a)
      (value_at row (suc (length ts)) f ts >>= λ x. Some (Single x.0, x.1, x.2)))

  unfoldable pub listed_item_at : Noting (Item P)
  listed_item_at f ts = row_item_at f ts >>= λ x. Some (x.0, x.1, passed_over alias_at x.2)

  -- one { "," one }, with at most so many
  unfoldable pub items_from : {A : Type 0} → Noting A → ℕ → Noting (List A)
  items_from one zero f ts = None
  items_from one (suc m) f ts = one f ts >>= λ x. if_some (comma_at x.2) (λ a. items_from one m x.1 a >>= λ xs. Some (x.0 ∷ xs.0, xs.1, xs.2)) (Some (x.0 ∷ [], x.1, x.2))

  -- all of the tokens
  abbrev pub ended : Statement P → F → Tokens → Option (Statement P × F)
  ended x f [] = Some (x, f)
  ended x f (t ∷ ts) = None

  unfoldable pub all_at : F → Tokens → Option (Statement P × F)
  all_at f b = word w.From b >>= λ c. table_at f c >>= λ t. ended (All t.0) t.1 t.2

  unfoldable pub listed_at : F → Tokens → Option (Statement P × F)
  listed_at f a = items_from listed_item_at (length a) f a >>= λ xs. word w.From xs.2 >>= λ c. table_at xs.1 c >>= λ t. ended (Listed xs.0 t.0) t.1 t.2

  unfoldable pub plain_at : F → Tokens → Option (Statement P × F)
  plain_at f a = items_from plain_item_at (length a) f a >>= λ xs. ended (Plain xs.0) xs.1 xs.2

  -- The word FROM, which is reserved, tells a statement with a table from one without.
  unfoldable pub select_at : F → Tokens → Option (Statement P × F)
  select_at f ts = word w.Select ts >>= λ a. if_some (star_at a) (λ b. all_at f b) (if has_from a then listed_at f a else plain_at f a)
