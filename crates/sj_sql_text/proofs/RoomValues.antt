-- The pieces of a value that some tokens spell have the room that these have.
use Rattle.std.proofs.Common.{◌≡◌, Bool, true, false, List, ◌∷◌, codes, Some, refl, subst}
use Rattle.sj_path_tree.specs.Tree.{Path}
use Rattle.sj_value.specs.declared.clauses.Nulls.{Nulls}
use Rattle.sj_sql_token.specs.declared.keyword.Keyword.TheVariants as w
use Rattle.sj_sql_grammar.specs.declared.clauses.Encoding.{Encoding}
use Rattle.sj_sql_grammar.specs.declared.clauses.Passed.{Passed}
use Rattle.sj_sql_grammar.specs.declared.clauses.QueryClauses.{QueryClauses}
use Rattle.sj_sql_grammar.specs.declared.clauses.IsJsonCall.{IsJsonCall}
use Rattle.sj_sql_grammar.specs.declared.clauses.TypeName.{TypeName}
use Rattle.sj_value.specs.declared.clauses.JsonKind.{JsonKind}
use Rattle.sj_value.specs.declared.types.SqlType.TheVariants as sql
use Rattle.sj_sql_grammar.specs.declared.clauses.TypeName.TheVariants.{Known}
use Rattle.sj_sql_grammar.specs.Tree.{PathText, Written, Common, ExistsCall, ValueCall, QueryCall, Value, Object, Array, Values, Members}
use Rattle.sj_sql_grammar.specs.Phrases.{Tokens, Phrase, comma_at, kind_of, returning_at}
use Rattle.sj_sql_grammar.specs.Grammar as g
use Rattle.sj_sql_grammar.specs.Grammar.{IsOptional, IsPassedOver, IsList, IsDocument, IsPassed, IsPassing, IsCommon, IsExistsCall, IsValueCall, AreQueryClauses, IsQueryCall, IsKind, IsOwnUnique, IsIsJson, Source, IsValue, IsValues, IsMember, IsMembers}
use Rattle.sj_sql_grammar.specs.Notes.{common_with, exists_with, value_call_with, query_with, value_with, values_with, members_with}
use Rattle.sj_sql_grammar.specs.Answers.{finishing}
use Rattle.sj_sql_grammar.proofs.ReadTokens.{If}
use Rattle.sj_sql_text.specs.Pieces.{Pieces, Call, Comma, Close}
use Rattle.sj_sql_text.specs.Phrases as on
use Rattle.sj_sql_text.specs.Statements.{exists_on, value_call_on, query_on, value_on, values_on, members_on, member_on}
use Rattle.sj_sql_text.proofs.Room.{Keeps, stays, and_keeps, opens, closes, Needs, needs_none, and_needs, Holds, plain, behind, joined, called}
use Rattle.sj_sql_text.proofs.RoomPhrases as room
use Rattle.sj_sql_text.proofs.RoomPhrases.{Over, word_keeps, comma_keeps, colon_keeps, string_keeps, name_keeps, doc_keeps, meant_keeps}

-- ---- what may stand, and what is repeated

pub optional_keeps : {A : Type 0} {phrase : Phrase A} {default x : A} {ts rest : Tokens} → ((ts : Tokens) → If (Over ts) (phrase ts)) → IsOptional phrase default ts x rest → Keeps ts rest
optional_keeps {x = x} {ts = ts} {rest = rest} p (g.there h) = (p ts).holds (x, rest) h
optional_keeps {ts = ts} p g.absent = stays ts

pub over_keeps : {A : Type 0} {phrase : Phrase A} {ts rest : Tokens} → ((ts : Tokens) → If (Over ts) (phrase ts)) → IsPassedOver phrase ts rest → Keeps ts rest
over_keeps {ts = ts} {rest = rest} p (g.passed {x = x} h) = (p ts).holds (x, rest) h
over_keeps {ts = ts} p g.missing = stays ts

list_keeps : {xs : List Passed} {ts rest : Tokens} → IsList IsPassed ts xs rest → Keeps ts rest
list_keeps {ts = ts} {rest = rest} (g.last {x = x} d) = (room.passed_keeps ts).holds (x, rest) d
list_keeps {ts = ts} (g.more {a = a} {b = b} {x = x} d c q) = and_keeps ((room.passed_keeps ts).holds (x, a) d) (and_keeps ((comma_keeps a).holds b c) (list_keeps q))

-- behind a comma
pub behind_comma : {a b rest : Tokens} {f : Pieces → Pieces} → comma_at a ≡ Some b → Holds b f rest → Holds a (λ ps. Comma ∷ f ps) rest
behind_comma {a} {b} c x = joined {f = λ ps. Comma ∷ ps} (plain (needs_none (λ d ps h. h)) ((comma_keeps a).holds b c)) x

-- ---- functions on the document

pub document_keeps : {ts rest : Tokens} {x : Encoding} → IsDocument ts x rest → Keeps ts rest
document_keeps (g.doc {ts = ts} {a = a} h o) = and_keeps ((doc_keeps ts).holds a h) (optional_keeps room.format_keeps o)

pub variables_keep : {ts rest : Tokens} {xs : List Passed} → IsPassing ts xs rest → Keeps ts rest
variables_keep (g.nothing {ts = ts}) = stays ts
variables_keep (g.variables {ts = ts} {a = a} h d) = and_keeps ((word_keeps w.Passing ts).holds a h) (list_keeps d)

pub common_holds : {ts rest : Tokens} {x : Common PathText} → IsCommon ts x rest → Holds ts (on.common_on (common_with finishing x)) rest
common_holds (g.common {a = a} {b = b} {c = c} {x = x} {path = path} {variables = variables} d h s v) =
    plain (room.common_needs (common_with finishing (record { encoding = x; path = Written path; passing = variables }))) (and_keeps (document_keeps d) (and_keeps ((comma_keeps a).holds b h) (and_keeps ((string_keeps b).holds (path, c) s) (variables_keep v))))

exists_holds : {ts rest : Tokens} {x : ExistsCall PathText} → IsExistsCall ts x rest → Holds ts (exists_on (exists_with finishing x)) rest
exists_holds (g.exists_call {ts = ts} {a = a} {b = b} {d = d} {rest = rest} {e = action} h o c e z) =
    called (codes "JSON_EXISTS") ((word_keeps w.JsonExists ts).holds a h) ((opens a).holds b o)
    (joined (common_holds c) (plain (room.exists_clause_needs action) (optional_keeps room.exists_clause_keeps e))) ((closes d).holds rest z)

pub returned_holds : {ts rest : Tokens} {ty : TypeName} → IsOptional returning_at (Known sql.Varchar) ts ty rest → Holds ts (λ ps. on.word (codes "RETURNING") (on.type_on ty ps)) rest
returned_holds {ts} {rest} {ty} (g.there h) = (room.returning_holds ts).holds (ty, rest) h
returned_holds {ts} g.absent = plain (needs_none (λ d ps h. h)) (stays ts)

value_call_holds : {ts rest : Tokens} {x : ValueCall PathText} → IsValueCall ts x rest → Holds ts (value_call_on (value_call_with finishing x)) rest
value_call_holds (g.value_call {ts = ts} {a = a} {b = b} {f = f} {rest = rest} {empty = empty} {error = error} h o c ty e r z) =
    called (codes "JSON_VALUE") ((word_keeps w.JsonValue ts).holds a h) ((opens a).holds b o)
    (joined (common_holds c) (joined (returned_holds ty)
    (plain (room.value_clauses_need empty error) (and_keeps (optional_keeps (room.value_clause_keeps w.Empty) e) (optional_keeps (room.value_clause_keeps w.Error) r)))))
    ((closes f).holds rest z)

pub query_clauses_keep : {ts rest : Tokens} {x : QueryClauses} → AreQueryClauses ts x rest → Keeps ts rest
query_clauses_keep (g.query_clauses wr q e r) =
    and_keeps (optional_keeps room.wrapper_keeps wr) (and_keeps (optional_keeps room.quotes_keeps q)
    (and_keeps (optional_keeps (room.query_clause_keeps w.Empty) e) (optional_keeps (room.query_clause_keeps w.Error) r)))

query_holds : {ts rest : Tokens} {x : QueryCall PathText} → IsQueryCall ts x rest → Holds ts (query_on (query_with finishing x)) rest
query_holds (g.query_call {ts = ts} {a = a} {b = b} {d = d} {rest = rest} {clauses = clauses} h o c q z) =
    called (codes "JSON_QUERY") ((word_keeps w.JsonQuery ts).holds a h) ((opens a).holds b o) (joined (common_holds c) (plain (room.query_clauses_need clauses) (query_clauses_keep q))) ((closes d).holds rest z)

kind_keeps : {ts rest : Tokens} {x : JsonKind} → IsKind ts x rest → Keeps ts rest
kind_keeps (g.value_kind {ts = ts} {rest = rest} h) = (word_keeps w.Value ts).holds rest h
kind_keeps (g.other_kind {ts = ts} {rest = rest} {x = x} h) = (meant_keeps kind_of ts).holds (x, rest) h
kind_keeps (g.no_kind {ts = ts}) = stays ts

own_keeps : {ts rest : Tokens} {x : Bool} → IsOwnUnique ts x rest → Keeps ts rest
own_keeps (g.own {ts = ts} {rest = rest} {x = x} h) = (room.unique_keeps ts).holds (x, rest) h
own_keeps (g.none_follows {ts = ts} h) = stays ts

is_json_keeps : {ts rest : Tokens} {x : IsJsonCall} → IsIsJson ts x rest → Keeps ts rest
is_json_keeps (g.is_json_call {ts = ts} {a = a} {b = b} {c = c} {d = d} h i n j kind u) =
    and_keeps ((doc_keeps ts).holds a h) (and_keeps ((word_keeps w.Is a).holds b i) (and_keeps (optional_keeps room.not_keeps n) (and_keeps ((word_keeps w.Json c).holds d j) (and_keeps (kind_keeps kind) (own_keeps u)))))

-- ---- values

abbrev object_on : Members Path → Nulls → Bool → Pieces → Pieces
object_on members n u ps = Call (codes "JSON_OBJECT") ∷ members_on false members (on.nulls_on n (on.unique_on u (Close ∷ ps)))

is_object : {s : Source} {ts rest : Tokens} {xs : Members PathText} → IsMembers s ts xs rest → (n : Nulls) (u : Bool) → object_on (members_with finishing xs) n u ≡ value_on (Object (members_with finishing xs) n u)
is_object (g.last_member d) n u = refl
is_object (g.more_members d c q) n u = refl

abbrev array_on : Values Path → Nulls → Pieces → Pieces
array_on values n ps = Call (codes "JSON_ARRAY") ∷ values_on false values (on.nulls_on n (Close ∷ ps))

is_array : {s : Source} {ts rest : Tokens} {xs : Values PathText} → IsValues s ts xs rest → (n : Nulls) → array_on (values_with finishing xs) n ≡ value_on (Array (values_with finishing xs) n)
is_array (g.last_value d) n = refl
is_array (g.more_values d c q) n = refl

other_members : {s : Source} {ts rest : Tokens} {xs : Members PathText} → IsMembers s ts xs rest → (λ ps. Comma ∷ members_on false (members_with finishing xs) ps) ≡ members_on true (members_with finishing xs)
other_members (g.last_member d) = refl
other_members (g.more_members d c q) = refl

other_values : {s : Source} {ts rest : Tokens} {xs : Values PathText} → IsValues s ts xs rest → (λ ps. Comma ∷ values_on false (values_with finishing xs) ps) ≡ values_on true (values_with finishing xs)
other_values (g.last_value d) = refl
other_values (g.more_values d c q) = refl

clauses_need : (n : Nulls) (u : Bool) → Needs 0 (λ ps. on.nulls_on n (on.unique_on u ps))
clauses_need n u = and_needs (room.nulls_need n) (room.unique_needs u)

value_word : {a b : Tokens} → Keeps a b → Holds a (on.word (codes "VALUE")) b
value_word k = plain (needs_none (λ d ps h. h)) k

mutual
  pub value_holds : {s : Source} {ts rest : Tokens} {x : Value PathText} → IsValue s ts x rest → Holds ts (value_on (value_with finishing x)) rest
  value_holds (g.literal {ts = ts} {rest = rest} {x = x} h) = plain (room.literal_needs x) ((room.literal_keeps ts).holds (x, rest) h)
  value_holds (g.column {ts = ts} {rest = rest} {name = n} h) = plain (needs_none (λ d ps h. h)) ((name_keeps ts).holds (n, rest) h)
  value_holds (g.exists d) = exists_holds d
  value_holds (g.value d) = value_call_holds d
  value_holds (g.query d) = query_holds d
  value_holds (g.is_json {x = x} d) = plain (room.is_json_needs x) (is_json_keeps d)
  value_holds (g.no_object {ts = ts} {a = a} {b = b} {rest = rest} h o z) =
      called {f = λ ps. ps} (codes "JSON_OBJECT") ((word_keeps w.JsonObject ts).holds a h) ((opens a).holds b o) (plain (needs_none (λ d ps h. h)) (stays b)) ((closes b).holds rest z)
  value_holds (g.object {ts = ts} {a = a} {b = b} {e = e} {rest = rest} {n = n} {u = u} h o d nulls unique z) =
      subst (λ (f : Pieces → Pieces). Holds ts f rest) (is_object d n u)
      (called (codes "JSON_OBJECT") ((word_keeps w.JsonObject ts).holds a h) ((opens a).holds b o)
      (joined (members_hold d) (plain (clauses_need n u) (and_keeps (optional_keeps room.nulls_keeps nulls) (optional_keeps room.unique_keeps unique)))) ((closes e).holds rest z))
  value_holds (g.no_array {ts = ts} {a = a} {b = b} {rest = rest} h o z) =
      called {f = λ ps. ps} (codes "JSON_ARRAY") ((word_keeps w.JsonArray ts).holds a h) ((opens a).holds b o) (plain (needs_none (λ d ps h. h)) (stays b)) ((closes b).holds rest z)
  value_holds (g.array {ts = ts} {a = a} {b = b} {d = e} {rest = rest} {n = n} h o d nulls z) =
      subst (λ (f : Pieces → Pieces). Holds ts f rest) (is_array d n)
      (called (codes "JSON_ARRAY") ((word_keeps w.JsonArray ts).holds a h) ((opens a).holds b o) (joined (values_hold d) (plain (room.nulls_need n) (optional_keeps room.nulls_keeps nulls))) ((closes e).holds rest z))

  values_hold : {s : Source} {ts rest : Tokens} {xs : Values PathText} → IsValues s ts xs rest → Holds ts (values_on false (values_with finishing xs)) rest
  values_hold (g.last_value d) = value_holds d
  values_hold (g.more_values {a = a} {rest = rest} d c q) = joined (value_holds d) (subst (λ (f : Pieces → Pieces). Holds a f rest) (other_values q) (behind_comma c (values_hold q)))

  pub member_holds : {s : Source} {ts rest : Tokens} {x y : Value PathText} → IsMember s ts x y rest → Holds ts (member_on (value_with finishing x) (value_with finishing y)) rest
  member_holds (g.keyed {ts = ts} {a = a} {b = b} {c = c} h d v q) =
      behind ((word_keeps w.Key ts).holds a h) (joined (value_holds d) (joined (value_word ((word_keeps w.Value b).holds c v)) (value_holds q)))
  member_holds (g.valued {a = a} {b = b} d v q) = joined (value_holds d) (joined (value_word ((word_keeps w.Value a).holds b v)) (value_holds q))
  member_holds (g.coloned {a = a} {b = b} d v q) = joined (value_holds d) (joined (value_word ((colon_keeps a).holds b v)) (value_holds q))

  members_hold : {s : Source} {ts rest : Tokens} {xs : Members PathText} → IsMembers s ts xs rest → Holds ts (members_on false (members_with finishing xs)) rest
  members_hold (g.last_member d) = member_holds d
  members_hold (g.more_members {a = a} {rest = rest} d c q) = joined (member_holds d) (subst (λ (f : Pieces → Pieces). Holds a f rest) (other_members q) (behind_comma c (members_hold q)))
