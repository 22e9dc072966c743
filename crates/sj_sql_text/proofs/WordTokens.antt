-- The words of a canonical text, as tokens.
use Rattle.std.proofs.Common.{◌≡◌, ℕ, List, ◌∷◌, codes, Some, refl}
use Rattle.sj_sql_token.specs.declared.keyword.Keyword.{Keyword}
use Rattle.sj_sql_token.specs.declared.keyword.Keyword.TheVariants as w
use Rattle.sj_sql_token.specs.Keywords.{keyword_of}
use Rattle.sj_sql_token.specs.Same.{same}
use Rattle.sj_sql_token.proofs.Keywords.{same_on}
use Rattle.sj_sql_grammar.specs.Phrases.{Tokens, word}
use Rattle.sj_sql_grammar.proofs.ReadTokens.{cond_on}
use Rattle.sj_sql_text.specs.Tokens.{word_token}

-- a word stands there
pub stands : (v : Keyword) (text : List ℕ) (ts : Tokens) → keyword_of text ≡ v → word v (word_token text ∷ ts) ≡ Some ts
stands v text ts e = cond_on (same (keyword_of text) v) (Some ts) _ (same_on (keyword_of text) v e) refl

pub select_is : keyword_of (codes "SELECT") ≡ w.Select
unfolding keyword_of
select_is = refl

pub from_is : keyword_of (codes "FROM") ≡ w.From
unfolding keyword_of
from_is = refl

pub as_is : keyword_of (codes "AS") ≡ w.As
unfolding keyword_of
as_is = refl

pub json_exists_is : keyword_of (codes "JSON_EXISTS") ≡ w.JsonExists
unfolding keyword_of
json_exists_is = refl

pub json_value_is : keyword_of (codes "JSON_VALUE") ≡ w.JsonValue
unfolding keyword_of
json_value_is = refl

pub json_query_is : keyword_of (codes "JSON_QUERY") ≡ w.JsonQuery
unfolding keyword_of
json_query_is = refl

pub json_table_is : keyword_of (codes "JSON_TABLE") ≡ w.JsonTable
unfolding keyword_of
json_table_is = refl

pub json_object_is : keyword_of (codes "JSON_OBJECT") ≡ w.JsonObject
unfolding keyword_of
json_object_is = refl

pub json_array_is : keyword_of (codes "JSON_ARRAY") ≡ w.JsonArray
unfolding keyword_of
json_array_is = refl

pub json_objectagg_is : keyword_of (codes "JSON_OBJECTAGG") ≡ w.JsonObjectAgg
unfolding keyword_of
json_objectagg_is = refl

pub json_arrayagg_is : keyword_of (codes "JSON_ARRAYAGG") ≡ w.JsonArrayAgg
unfolding keyword_of
json_arrayagg_is = refl

pub passing_is : keyword_of (codes "PASSING") ≡ w.Passing
unfolding keyword_of
passing_is = refl

pub on_is : keyword_of (codes "ON") ≡ w.On
unfolding keyword_of
on_is = refl

pub empty_is : keyword_of (codes "EMPTY") ≡ w.Empty
unfolding keyword_of
empty_is = refl

pub error_is : keyword_of (codes "ERROR") ≡ w.Error
unfolding keyword_of
error_is = refl

pub is_is : keyword_of (codes "IS") ≡ w.Is
unfolding keyword_of
is_is = refl

pub json_is : keyword_of (codes "JSON") ≡ w.Json
unfolding keyword_of
json_is = refl

pub value_is : keyword_of (codes "VALUE") ≡ w.Value
unfolding keyword_of
value_is = refl

pub nested_is : keyword_of (codes "NESTED") ≡ w.Nested
unfolding keyword_of
nested_is = refl

pub columns_is : keyword_of (codes "COLUMNS") ≡ w.Columns
unfolding keyword_of
columns_is = refl

pub for_is : keyword_of (codes "FOR") ≡ w.For
unfolding keyword_of
for_is = refl

pub ordinality_is : keyword_of (codes "ORDINALITY") ≡ w.Ordinality
unfolding keyword_of
ordinality_is = refl

pub plan_is : keyword_of (codes "PLAN") ≡ w.Plan
unfolding keyword_of
plan_is = refl

pub default_is : keyword_of (codes "DEFAULT") ≡ w.Default
unfolding keyword_of
default_is = refl

pub outer_is : keyword_of (codes "OUTER") ≡ w.Outer
unfolding keyword_of
outer_is = refl

pub inner_is : keyword_of (codes "INNER") ≡ w.Inner
unfolding keyword_of
inner_is = refl

pub union_is : keyword_of (codes "UNION") ≡ w.Union
unfolding keyword_of
union_is = refl

pub cross_is : keyword_of (codes "CROSS") ≡ w.Cross
unfolding keyword_of
cross_is = refl

pub returning_is : keyword_of (codes "RETURNING") ≡ w.Returning
unfolding keyword_of
returning_is = refl
