-- The tokens of each phrase are that phrase.
use Rattle.std.proofs.Common.{◌≡◌, ℕ, Bool, true, false, List, [], ◌∷◌, codes, cond, ℤ, pos, negsuc, zero, suc, neg_ℤ, Option, Some, None, refl, ap}
use Rattle.std.specs.Prelude.{◌==◌, ◌&&◌, nat_le}
use Rattle.sj_decimal.specs.Limits.{max_digits}
use Rattle.sj_decimal.specs.Signed.{is_negative}
use Rattle.sj_path_tree.specs.declared.parts.Literal.{Literal}
use Rattle.sj_path_tree.specs.declared.parts.Literal.TheVariants as l
use Rattle.sj_path_tree.specs.Tree.{Path}
use Rattle.sj_path_text.specs.Text.{path_text}
use Rattle.sj_value.specs.declared.types.SqlType.TheVariants as sql
use Rattle.sj_value.specs.declared.clauses.Wrapper.{Wrapper}
use Rattle.sj_value.specs.declared.clauses.Wrapper.TheVariants as wrapper
use Rattle.sj_value.specs.declared.clauses.QueryAction.{QueryAction}
use Rattle.sj_value.specs.declared.clauses.QueryAction.TheVariants as on_query
use Rattle.sj_value.specs.declared.clauses.ExistsAction.{ExistsAction}
use Rattle.sj_value.specs.declared.clauses.ExistsAction.TheVariants as on_exists
use Rattle.sj_value.specs.declared.clauses.TableAction.{TableAction}
use Rattle.sj_value.specs.declared.clauses.TableAction.TheVariants as on_table
use Rattle.sj_value.specs.declared.clauses.Nulls.{Nulls}
use Rattle.sj_value.specs.declared.clauses.Nulls.TheVariants as nulls
use Rattle.sj_value.specs.declared.clauses.JsonKind.{JsonKind}
use Rattle.sj_value.specs.declared.clauses.JsonKind.TheVariants as json
use Rattle.sj_sql_token.specs.declared.token.Token.TheVariants as k
use Rattle.sj_sql_token.specs.declared.keyword.Keyword.{Keyword}
use Rattle.sj_sql_token.specs.declared.keyword.Keyword.TheVariants as w
use Rattle.sj_sql_token.specs.Keywords.{keyword_of}
use Rattle.sj_sql_grammar.specs.declared.clauses.Encoding.{Encoding}
use Rattle.sj_sql_grammar.specs.declared.clauses.Encoding.TheVariants.{Read, Refused}
use Rattle.sj_sql_grammar.specs.declared.clauses.TypeName.{TypeName}
use Rattle.sj_sql_grammar.specs.declared.clauses.TypeName.TheVariants.{Known, Approximate, Datetime}
use Rattle.sj_sql_grammar.specs.declared.clauses.Passed.{Passed}
use Rattle.sj_sql_grammar.specs.declared.clauses.ValueDo.{ValueDo}
use Rattle.sj_sql_grammar.specs.declared.clauses.ValueDo.TheVariants as on_value
use Rattle.sj_sql_grammar.specs.declared.clauses.Quotes.{Quotes}
use Rattle.sj_sql_grammar.specs.declared.clauses.Quotes.TheVariants as quotes
use Rattle.sj_sql_grammar.specs.declared.clauses.QueryClauses.{QueryClauses}
use Rattle.sj_sql_grammar.specs.declared.clauses.IsJsonCall.{IsJsonCall}
use Rattle.sj_sql_grammar.specs.Tree.{Written}
use Rattle.sj_sql_grammar.specs.Phrases.{Tokens, Phrase, open_at, doc_at, number_at, negated, literal_at, max_varchar, type_from, type_at, format_at, encoding_at, passed_at, cause_at, on_at, exists_clause_at, returning_at, value_action_at, value_clause_at, query_action_at, query_clause_at, wrapper_at, quotes_at, not_at, unique_at, nulls_at, alias_at, path_name_at, path_at, nested_path_at, table_clause_at}
use Rattle.sj_sql_grammar.specs.Grammar as g
use Rattle.sj_sql_grammar.specs.Grammar.{IsOptional, IsList, IsDocument, IsPassed, IsPassing, AreQueryClauses, IsKind, IsOwnUnique, IsIsJson}
use Rattle.sj_sql_grammar.proofs.ReadTokens.{bind_is, none_on, cond_on}
use Rattle.sj_sql_text.specs.Pieces.{Pieces}
use Rattle.sj_sql_text.specs.Phrases as on
use Rattle.sj_sql_text.specs.Tokens.{unsigned, tokens_of}
use Rattle.sj_sql_text.proofs.ReadPhrases.{IsWithin}
use Rattle.sj_sql_text.proofs.WordTokens.{stands, passing_is, on_is, empty_is, error_is, is_is, json_is, returning_is}

-- ---- literals

twice : (d : ℤ) → neg_ℤ (neg_ℤ d) ≡ d
twice (pos zero) = refl
twice (pos (suc n)) = refl
twice (negsuc n) = refl

unsigned_number : (d : ℤ × ℕ) (ts : Tokens) → number_at (unsigned d ∷ ts) ≡ Some (d, ts)
unsigned_number d ts = go (d.1 == 0)
  where
    go : (whole : Bool) → number_at (cond whole (k.Whole d) (k.Fraction d) ∷ ts) ≡ Some (d, ts)
    go true = refl
    go false = refl

unsigned_literal : (d : ℤ × ℕ) (ts : Tokens) → literal_at (unsigned d ∷ ts) ≡ Some (l.Num d, ts)
unfolding literal_at
unsigned_literal d ts = go (d.1 == 0)
  where
    go : (whole : Bool) → literal_at (cond whole (k.Whole d) (k.Fraction d) ∷ ts) ≡ Some (l.Num d, ts)
    go true = refl
    go false = refl

negative_literal : (d : ℤ × ℕ) (ts : Tokens) → literal_at (k.Minus ∷ unsigned (negated d) ∷ ts) ≡ Some (l.Num d, ts)
unfolding literal_at
negative_literal d ts = bind_is (number_at (unsigned (negated d) ∷ ts)) _ (unsigned_number (negated d) ts) (ap (λ (n : ℤ). Some (l.Num (n, d.1), ts)) (twice d.0))

pub literal_is : (x : Literal) (ps : Pieces) → literal_at (tokens_of (on.literal_on x ps)) ≡ Some (x, tokens_of ps)
unfolding keyword_of literal_at
literal_is (l.Text s) ps = refl
literal_is (l.Num d) ps = go (is_negative d.0)
  where
    go : (minus : Bool) → literal_at (cond minus (k.Minus ∷ unsigned (negated d) ∷ tokens_of ps) (unsigned d ∷ tokens_of ps)) ≡ Some (l.Num d, tokens_of ps)
    go true = negative_literal d (tokens_of ps)
    go false = unsigned_literal d (tokens_of ps)
literal_is (l.Bool true) ps = refl
literal_is (l.Bool false) ps = refl
literal_is l.Null ps = refl

-- ---- the document and its variables

pub document_is : (x : Encoding) (ps : Pieces) → IsDocument (tokens_of (on.document_on x ps)) x (tokens_of ps)
unfolding keyword_of format_at
document_is Read ps = g.doc refl g.absent
document_is Refused ps = g.doc refl (g.there refl)

pub encoding_is : (x : Encoding) (ps : Pieces) → IsOptional encoding_at Read (tokens_of (on.encoding_on x ps)) x (tokens_of ps)
unfolding keyword_of encoding_at
encoding_is Read ps = g.absent
encoding_is Refused ps = g.there refl

pub path_name_is : (name : Option (List ℕ)) (ps : Pieces) → IsOptional path_name_at None (tokens_of (on.path_name_on name ps)) name (tokens_of ps)
unfolding keyword_of path_name_at alias_at
path_name_is None ps = g.absent
path_name_is (Some name) ps = g.there refl

pub passed_is : (x : Passed) (ps : Pieces) → IsPassed (tokens_of (on.passed_on x ps)) x (tokens_of ps)
unfolding keyword_of passed_at
passed_is x ps = bind_is (literal_at (tokens_of (on.passed_on x ps))) _ (literal_is x.value (on.word (codes "AS") (on.name_on x.name ps))) refl

passed_are : (x : Passed) (xs : List Passed) (ps : Pieces) → IsList IsPassed (tokens_of (on.listed on.passed_on (x ∷ xs) ps)) (x ∷ xs) (tokens_of ps)
passed_are x [] ps = g.last (passed_is x ps)
passed_are x (y ∷ xs) ps = g.more (passed_is x (on.each_behind on.passed_on (y ∷ xs) ps)) refl (passed_are y xs ps)

pub variables_are : (xs : List Passed) (ps : Pieces) → IsPassing (tokens_of (on.passing_on xs ps)) xs (tokens_of ps)
variables_are [] ps = g.nothing
variables_are (x ∷ xs) ps = g.variables (stands w.Passing (codes "PASSING") _ passing_is) (passed_are x xs ps)

-- ---- types

pub type_is : (ty : TypeName) → IsWithin ty → (ps : Pieces) → open_at (tokens_of ps) ≡ None → type_at (tokens_of (on.type_on ty ps)) ≡ Some (ty, tokens_of ps)
unfolding keyword_of type_at type_from
type_is (Known sql.Varchar) h ps none = none_on (open_at (tokens_of ps)) _ _ none refl
type_is (Known (sql.VarcharMax n)) h ps none = cond_on (nat_le 1 n && nat_le n max_varchar) _ _ h.is refl
type_is (Known sql.Numeric) h ps none = none_on (open_at (tokens_of ps)) _ _ none refl
type_is (Known (sql.NumericFixed p s)) h ps none = cond_on (nat_le 1 p && nat_le p max_digits && nat_le s p) _ _ h.is refl
type_is (Known sql.Integer) h ps none = refl
type_is (Known sql.Bigint) h ps none = refl
type_is (Known sql.Boolean) h ps none = refl
type_is Approximate h ps none = none_on (open_at (tokens_of ps)) _ _ none refl
type_is Datetime h ps none = refl

pub returning : (ty : TypeName) → IsWithin ty → (ps : Pieces) → open_at (tokens_of ps) ≡ None → returning_at (tokens_of (on.word (codes "RETURNING") (on.type_on ty ps))) ≡ Some (ty, tokens_of ps)
unfolding returning_at
returning ty h ps none = bind_is _ _ (stands w.Returning (codes "RETURNING") (tokens_of (on.type_on ty ps)) returning_is) (type_is ty h ps none)

-- ---- clauses

cause_is : (v : Keyword) (text : List ℕ) (ps : Pieces) → keyword_of text ≡ v → cause_at v (tokens_of (on.word (codes "ON") (on.word text ps))) ≡ Some (tokens_of ps)
cause_is v text ps e = bind_is _ _ (stands w.On (codes "ON") (tokens_of (on.word text ps)) on_is) (stands v text (tokens_of ps) e)

-- an action, and its cause
acted : {A : Type 0} (v : Keyword) (text : List ℕ) (action : Phrase A) (x : A) (ts : Tokens) (ps : Pieces) → keyword_of text ≡ v
    → action ts ≡ Some (x, tokens_of (on.word (codes "ON") (on.word text ps))) → on_at v action ts ≡ Some (x, tokens_of ps)
acted v text action x ts ps e h = bind_is (action ts) _ h (bind_is _ _ (cause_is v text ps e) refl)

pub exists_clause_is : (x : ExistsAction) (ps : Pieces) → exists_clause_at (tokens_of (on.exists_clause_on x ps)) ≡ Some (x, tokens_of ps)
unfolding keyword_of exists_clause_at
exists_clause_is on_exists.True ps = refl
exists_clause_is on_exists.False ps = refl
exists_clause_is on_exists.Unknown ps = refl
exists_clause_is on_exists.Error ps = refl

value_action_is : (x : ValueDo) (ps : Pieces) → value_action_at (tokens_of (on.value_action_on x ps)) ≡ Some (x, tokens_of ps)
unfolding keyword_of
value_action_is on_value.Error ps = refl
value_action_is on_value.Null ps = refl
value_action_is (on_value.Default x) ps = bind_is (literal_at (tokens_of (on.literal_on x ps))) _ (literal_is x ps) refl

value_clause_is : (v : Keyword) (text : List ℕ) (x : ValueDo) (ps : Pieces) → keyword_of text ≡ v → value_clause_at v (tokens_of (on.value_action_on x (on.word (codes "ON") (on.word text ps)))) ≡ Some (x, tokens_of ps)
unfolding value_clause_at
value_clause_is v text x ps e =
    let cause = on.word (codes "ON") (on.word text ps) in
    acted v text value_action_at x (tokens_of (on.value_action_on x cause)) ps e (value_action_is x cause)

pub value_on_empty : (x : ValueDo) (ps : Pieces) → value_clause_at w.Empty (tokens_of (on.value_action_on x (on.on_empty ps))) ≡ Some (x, tokens_of ps)
value_on_empty x ps = value_clause_is w.Empty (codes "EMPTY") x ps empty_is

pub value_on_error : (x : ValueDo) (ps : Pieces) → value_clause_at w.Error (tokens_of (on.value_action_on x (on.on_error ps))) ≡ Some (x, tokens_of ps)
value_on_error x ps = value_clause_is w.Error (codes "ERROR") x ps error_is

query_action_is : (x : QueryAction) (ps : Pieces) → query_action_at (tokens_of (on.query_action_on x ps)) ≡ Some (x, tokens_of ps)
unfolding keyword_of
query_action_is on_query.Error ps = refl
query_action_is on_query.Null ps = refl
query_action_is on_query.EmptyArray ps = refl
query_action_is on_query.EmptyObject ps = refl

query_clause_is : (v : Keyword) (text : List ℕ) (x : QueryAction) (ps : Pieces) → keyword_of text ≡ v → query_clause_at v (tokens_of (on.query_action_on x (on.word (codes "ON") (on.word text ps)))) ≡ Some (x, tokens_of ps)
unfolding query_clause_at
query_clause_is v text x ps e =
    let cause = on.word (codes "ON") (on.word text ps) in
    acted v text query_action_at x (tokens_of (on.query_action_on x cause)) ps e (query_action_is x cause)

wrapper_is : (x : Wrapper) (ps : Pieces) → wrapper_at (tokens_of (on.wrapper_on x ps)) ≡ Some (x, tokens_of ps)
unfolding keyword_of wrapper_at
wrapper_is wrapper.Without ps = refl
wrapper_is wrapper.Conditional ps = refl
wrapper_is wrapper.Unconditional ps = refl

-- no words `ON SCALAR STRING` come behind it
quotes_are : (x : Quotes) (action : QueryAction) (ps : Pieces) → IsOptional quotes_at quotes.Absent (tokens_of (on.quotes_on x (on.query_action_on action ps))) x (tokens_of (on.query_action_on action ps))
unfolding keyword_of quotes_at
quotes_are quotes.Absent action ps = g.absent
quotes_are quotes.Keep on_query.Error ps = g.there refl
quotes_are quotes.Keep on_query.Null ps = g.there refl
quotes_are quotes.Keep on_query.EmptyArray ps = g.there refl
quotes_are quotes.Keep on_query.EmptyObject ps = g.there refl
quotes_are quotes.Omit on_query.Error ps = g.there refl
quotes_are quotes.Omit on_query.Null ps = g.there refl
quotes_are quotes.Omit on_query.EmptyArray ps = g.there refl
quotes_are quotes.Omit on_query.EmptyObject ps = g.there refl

pub query_clauses_are : (c : QueryClauses) (ps : Pieces) → AreQueryClauses (tokens_of (on.query_clauses_on c ps)) c (tokens_of ps)
query_clauses_are c ps =
    let error = on.query_action_on c.on_error (on.on_error ps) in
    let empty = on.query_action_on c.on_empty (on.on_empty error) in
    g.query_clauses (g.there (wrapper_is c.wrapper (on.quotes_on c.quotes empty))) (quotes_are c.quotes c.on_empty (on.on_empty error))
    (g.there (query_clause_is w.Empty (codes "EMPTY") c.on_empty error empty_is)) (g.there (query_clause_is w.Error (codes "ERROR") c.on_error ps error_is))

pub unique_is : (x : Bool) (ps : Pieces) → unique_at (tokens_of (on.unique_on x ps)) ≡ Some (x, tokens_of ps)
unfolding keyword_of unique_at
unique_is true ps = refl
unique_is false ps = refl

pub nulls_are : (x : Nulls) (ps : Pieces) → nulls_at (tokens_of (on.nulls_on x ps)) ≡ Some (x, tokens_of ps)
unfolding keyword_of nulls_at
nulls_are nulls.Null ps = refl
nulls_are nulls.Absent ps = refl

not_is : (x : Bool) (ps : Pieces) → IsOptional not_at false (tokens_of (on.not_on x ps)) x (tokens_of ps)
unfolding keyword_of not_at
not_is true ps = g.there refl
not_is false ps = g.absent

kind_is : (x : JsonKind) (ps : Pieces) → IsKind (tokens_of (on.kind_on x ps)) x (tokens_of ps)
unfolding keyword_of
kind_is json.Value ps = g.value_kind refl
kind_is json.Array ps = g.other_kind refl
kind_is json.Object ps = g.other_kind refl
kind_is json.Scalar ps = g.other_kind refl

doc_is : (ps : Pieces) → doc_at (tokens_of (on.word (codes "doc") ps)) ≡ Some (tokens_of ps)
unfolding keyword_of
doc_is ps = refl

pub is_json : (c : IsJsonCall) (ps : Pieces) → IsIsJson (tokens_of (on.is_json_on c ps)) c (tokens_of ps)
is_json c ps =
    let unique = on.unique_on c.unique ps in
    let kind = on.kind_on c.kind unique in
    let json = on.word (codes "JSON") kind in
    let not = on.not_on c.negated json in
    g.is_json_call (doc_is (on.word (codes "IS") not)) (stands w.Is (codes "IS") (tokens_of not) is_is) (not_is c.negated json) (stands w.Json (codes "JSON") (tokens_of kind) json_is)
    (kind_is c.kind unique) (g.own (unique_is c.unique ps))

pub table_clause_is : (x : TableAction) (ps : Pieces) → table_clause_at (tokens_of (on.table_clause_on x ps)) ≡ Some (x, tokens_of ps)
unfolding keyword_of table_clause_at
table_clause_is on_table.Empty ps = refl
table_clause_is on_table.Error ps = refl

-- ---- paths

pub path_is : (p : Path) (ps : Pieces) → path_at (tokens_of (on.word (codes "PATH") (on.path_on p ps))) ≡ Some (Written (path_text p), tokens_of ps)
unfolding keyword_of path_at
path_is p ps = refl

pub nested_path_is : (p : Path) (ps : Pieces) → nested_path_at (tokens_of (on.word (codes "PATH") (on.path_on p ps))) ≡ Some (Written (path_text p), tokens_of ps)
unfolding keyword_of nested_path_at
nested_path_is p ps = refl
