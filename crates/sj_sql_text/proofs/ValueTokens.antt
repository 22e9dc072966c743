-- The tokens of a value that some tokens spell are that value, with each path in its canonical text.
use Rattle.std.proofs.Common.{◌≡◌, true, false, ◌∷◌, codes, Some, None, refl}
use Rattle.sj_sql_token.specs.declared.keyword.Keyword.TheVariants as w
use Rattle.sj_sql_grammar.specs.declared.clauses.ValueDo.{ValueDo}
use Rattle.sj_sql_grammar.specs.declared.clauses.ValueDo.TheVariants as on_value
use Rattle.sj_sql_grammar.specs.Tree.{PathText, Common, ExistsCall, ValueCall, QueryCall, Value, Values, Members}
use Rattle.sj_sql_grammar.specs.Phrases.{Tokens, open_at, comma_at}
use Rattle.sj_sql_grammar.specs.Grammar as g
use Rattle.sj_sql_grammar.specs.Grammar.{IsCommon, IsExistsCall, IsValueCall, IsQueryCall, Source, IsValue, IsValues, IsMember, IsMembers}
use Rattle.sj_sql_grammar.specs.Notes.{common_with, exists_with, value_call_with, query_with, value_with, values_with, members_with}
use Rattle.sj_sql_grammar.specs.Answers.{finishing}
use Rattle.sj_sql_text.specs.Pieces.{Pieces, Comma, Close}
use Rattle.sj_sql_text.specs.Phrases as on
use Rattle.sj_sql_text.specs.Statements.{exists_on, value_call_on, query_on, value_on, values_on, members_on, member_on}
use Rattle.sj_sql_text.specs.Tokens.{tokens_of}
use Rattle.sj_sql_text.specs.Law.{canonical}
use Rattle.sj_sql_text.proofs.WordTokens.{stands, json_exists_is, json_value_is, json_query_is, json_object_is, json_array_is, value_is}
use Rattle.sj_sql_text.proofs.ReadPhrases.{returning_read}
use Rattle.sj_sql_text.proofs.PhraseTokens as phrase

-- ---- functions on the document

common_spelled : (c : Common PathText) (ps : Pieces) → IsCommon (tokens_of (on.common_on (common_with finishing c) ps)) (common_with canonical c) (tokens_of ps)
common_spelled c ps = g.common (phrase.document_is c.encoding (Comma ∷ on.path_on (common_with finishing c).path (on.passing_on c.passing ps))) refl refl (phrase.variables_are c.passing ps)

exists_spelled : (c : ExistsCall PathText) (ps : Pieces) → IsExistsCall (tokens_of (exists_on (exists_with finishing c) ps)) (exists_with canonical c) (tokens_of ps)
exists_spelled c ps =
    let clause = on.exists_clause_on c.on_error (Close ∷ ps) in
    g.exists_call (stands w.JsonExists (codes "JSON_EXISTS") _ json_exists_is) refl (common_spelled c.common clause) (g.there (phrase.exists_clause_is c.on_error (Close ∷ ps))) refl

-- no parenthesis opens before an action
action_opens_none : (x : ValueDo) (ps : Pieces) → open_at (tokens_of (on.value_action_on x ps)) ≡ None
action_opens_none on_value.Error ps = refl
action_opens_none on_value.Null ps = refl
action_opens_none (on_value.Default x) ps = refl

value_call_spelled : {ts rest : Tokens} {c : ValueCall PathText} → IsValueCall ts c rest → (ps : Pieces) → IsValueCall (tokens_of (value_call_on (value_call_with finishing c) ps)) (value_call_with canonical c) (tokens_of ps)
value_call_spelled (g.value_call {x = x} {ty = ty} {empty = empty} {error = error} h o c t e r z) ps =
    let on_error = on.value_action_on error (on.on_error (Close ∷ ps)) in
    let on_empty = on.value_action_on empty (on.on_empty on_error) in
    let returning = on.word (codes "RETURNING") (on.type_on ty on_empty) in
    g.value_call (stands w.JsonValue (codes "JSON_VALUE") _ json_value_is) refl (common_spelled x returning)
    (g.there (phrase.returning ty (returning_read t) on_empty (action_opens_none empty (on.on_empty on_error))))
    (g.there (phrase.value_on_empty empty on_error)) (g.there (phrase.value_on_error error (Close ∷ ps))) refl

query_spelled : (c : QueryCall PathText) (ps : Pieces) → IsQueryCall (tokens_of (query_on (query_with finishing c) ps)) (query_with canonical c) (tokens_of ps)
query_spelled c ps =
    g.query_call (stands w.JsonQuery (codes "JSON_QUERY") _ json_query_is) refl (common_spelled c.common (on.query_clauses_on c.clauses (Close ∷ ps))) (phrase.query_clauses_are c.clauses (Close ∷ ps)) refl

-- ---- values

values_behind : {s : Source} {ts rest : Tokens} {xs : Values PathText} → IsValues s ts xs rest → (ps : Pieces) → comma_at (tokens_of (values_on true (values_with finishing xs) ps)) ≡ Some (tokens_of (values_on false (values_with finishing xs) ps))
values_behind (g.last_value d) ps = refl
values_behind (g.more_values d c q) ps = refl

members_behind : {s : Source} {ts rest : Tokens} {xs : Members PathText} → IsMembers s ts xs rest → (ps : Pieces) → comma_at (tokens_of (members_on true (members_with finishing xs) ps)) ≡ Some (tokens_of (members_on false (members_with finishing xs) ps))
members_behind (g.last_member d) ps = refl
members_behind (g.more_members d c q) ps = refl

mutual
  pub value_spelled : {s : Source} {ts rest : Tokens} {x : Value PathText} → IsValue s ts x rest → (ps : Pieces) → IsValue s (tokens_of (value_on (value_with finishing x) ps)) (value_with canonical x) (tokens_of ps)
  value_spelled (g.literal {x = x} h) ps = g.literal (phrase.literal_is x ps)
  value_spelled (g.column h) ps = g.column refl
  value_spelled (g.exists {x = x} d) ps = g.exists (exists_spelled x ps)
  value_spelled (g.value d) ps = g.value (value_call_spelled d ps)
  value_spelled (g.query {x = x} d) ps = g.query (query_spelled x ps)
  value_spelled (g.is_json {x = x} d) ps = g.is_json (phrase.is_json x ps)
  value_spelled (g.no_object h o z) ps = g.no_object (stands w.JsonObject (codes "JSON_OBJECT") _ json_object_is) refl refl
  value_spelled (g.object {n = n} {u = u} h o (g.last_member d) nulls unique z) ps =
      let unique = on.unique_on u (Close ∷ ps) in
      let nulls = on.nulls_on n unique in
      g.object (stands w.JsonObject (codes "JSON_OBJECT") _ json_object_is) refl (g.last_member (member_spelled d nulls)) (g.there (phrase.nulls_are n unique)) (g.there (phrase.unique_is u (Close ∷ ps))) refl
  value_spelled (g.object {n = n} {u = u} h o (g.more_members {xs = xs} d c q) nulls unique z) ps =
      let unique = on.unique_on u (Close ∷ ps) in
      let nulls = on.nulls_on n unique in
      g.object (stands w.JsonObject (codes "JSON_OBJECT") _ json_object_is) refl
      (g.more_members (member_spelled d (members_on true (members_with finishing xs) nulls)) (members_behind q nulls) (members_spelled q nulls))
      (g.there (phrase.nulls_are n unique)) (g.there (phrase.unique_is u (Close ∷ ps))) refl
  value_spelled (g.no_array h o z) ps = g.no_array (stands w.JsonArray (codes "JSON_ARRAY") _ json_array_is) refl refl
  value_spelled (g.array {n = n} h o (g.last_value d) nulls z) ps =
      let nulls = on.nulls_on n (Close ∷ ps) in
      g.array (stands w.JsonArray (codes "JSON_ARRAY") _ json_array_is) refl (g.last_value (value_spelled d nulls)) (g.there (phrase.nulls_are n (Close ∷ ps))) refl
  value_spelled (g.array {n = n} h o (g.more_values {xs = xs} d c q) nulls z) ps =
      let nulls = on.nulls_on n (Close ∷ ps) in
      g.array (stands w.JsonArray (codes "JSON_ARRAY") _ json_array_is) refl
      (g.more_values (value_spelled d (values_on true (values_with finishing xs) nulls)) (values_behind q nulls) (values_spelled q nulls)) (g.there (phrase.nulls_are n (Close ∷ ps))) refl

  values_spelled : {s : Source} {ts rest : Tokens} {xs : Values PathText} → IsValues s ts xs rest → (ps : Pieces) → IsValues s (tokens_of (values_on false (values_with finishing xs) ps)) (values_with canonical xs) (tokens_of ps)
  values_spelled (g.last_value d) ps = g.last_value (value_spelled d ps)
  values_spelled (g.more_values {xs = xs} d c q) ps = g.more_values (value_spelled d (values_on true (values_with finishing xs) ps)) (values_behind q ps) (values_spelled q ps)

  pub member_spelled : {s : Source} {ts rest : Tokens} {x y : Value PathText} → IsMember s ts x y rest → (ps : Pieces) → IsMember s (tokens_of (member_on (value_with finishing x) (value_with finishing y) ps)) (value_with canonical x) (value_with canonical y) (tokens_of ps)
  member_spelled (g.keyed {y = y} h d v q) ps =
      let value = value_on (value_with finishing y) ps in g.valued (value_spelled d (on.word (codes "VALUE") value)) (stands w.Value (codes "VALUE") (tokens_of value) value_is) (value_spelled q ps)
  member_spelled (g.valued {y = y} d v q) ps =
      let value = value_on (value_with finishing y) ps in g.valued (value_spelled d (on.word (codes "VALUE") value)) (stands w.Value (codes "VALUE") (tokens_of value) value_is) (value_spelled q ps)
  member_spelled (g.coloned {y = y} d v q) ps =
      let value = value_on (value_with finishing y) ps in g.valued (value_spelled d (on.word (codes "VALUE") value)) (stands w.Value (codes "VALUE") (tokens_of value) value_is) (value_spelled q ps)

  members_spelled : {s : Source} {ts rest : Tokens} {xs : Members PathText} → IsMembers s ts xs rest → (ps : Pieces) → IsMembers s (tokens_of (members_on false (members_with finishing xs) ps)) (members_with canonical xs) (tokens_of ps)
  members_spelled (g.last_member d) ps = g.last_member (member_spelled d ps)
  members_spelled (g.more_members {xs = xs} d c q) ps = g.more_members (member_spelled d (members_on true (members_with finishing xs) ps)) (members_behind q ps) (members_spelled q ps)
