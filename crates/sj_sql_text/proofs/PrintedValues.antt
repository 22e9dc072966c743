-- The pieces of a value that tokens of a file spell are inner.
use Rattle.std.proofs.Common.{◌≡◌, Bool, true, false, codes, Some, refl}
use Rattle.sj_path_tree.specs.Tree.{Path}
use Rattle.sj_value.specs.declared.clauses.Nulls.{Nulls}
use Rattle.sj_sql_token.specs.declared.keyword.Keyword.{Keyword}
use Rattle.sj_sql_token.specs.declared.keyword.Keyword.TheVariants as w
use Rattle.sj_sql_grammar.specs.declared.clauses.ValueDo.{ValueDo}
use Rattle.sj_sql_grammar.specs.declared.clauses.ValueDo.TheVariants as on_value
use Rattle.sj_sql_grammar.specs.Tree.{PathText, Written, Common, ExistsCall, ValueCall, QueryCall, Value, Values, NoValues, MoreValues, Members, NoMembers, MoreMembers}
use Rattle.sj_sql_grammar.specs.Phrases.{Tokens, word, open_at, comma_at, value_clause_at}
use Rattle.sj_sql_grammar.specs.Grammar as g
use Rattle.sj_sql_grammar.specs.Grammar.{IsOptional, IsCommon, IsExistsCall, IsValueCall, IsQueryCall, Source, IsValue, IsValues, IsMember, IsMembers}
use Rattle.sj_sql_grammar.specs.Notes.{common_with, exists_with, value_call_with, query_with, value_with, values_with, members_with}
use Rattle.sj_sql_grammar.specs.Answers.{finishing}
use Rattle.sj_sql_text.specs.Pieces.{Name, Comma}
use Rattle.sj_sql_text.specs.Phrases as on
use Rattle.sj_sql_text.specs.Statements.{exists_on, value_call_on, query_on, value_on, values_on, array_clause_on, members_on, object_clauses_on, member_on}
use Rattle.sj_sql_text.proofs.Inner.{AreLexical, Prints, and_prints, called_prints}
use Rattle.sj_sql_text.proofs.Room.{opens}
use Rattle.sj_sql_text.proofs.RoomPhrases as room
use Rattle.sj_sql_text.proofs.RoomPhrases.{word_keeps, comma_keeps, colon_keeps, string_keeps}
use Rattle.sj_sql_text.proofs.RoomValues.{optional_keeps, document_keeps, common_holds, returned_holds, value_holds, member_holds}
use Rattle.sj_sql_text.proofs.PrintedPhrases as printed
use Rattle.sj_sql_text.proofs.PrintedPhrases.{nothing_prints, piece_prints, word_prints}

-- ---- the tokens behind a part are lexical

pub behind_word : (v : Keyword) (ts : Tokens) {a : Tokens} → word v ts ≡ Some a → AreLexical ts → AreLexical a
behind_word v ts {a} h = ((word_keeps v ts).holds a h).lexical

pub behind_comma : (ts : Tokens) {a : Tokens} → comma_at ts ≡ Some a → AreLexical ts → AreLexical a
behind_comma ts {a} h = ((comma_keeps ts).holds a h).lexical

-- behind the name of a function, or a word, and the parenthesis that follows it
pub in_call : (v : Keyword) (ts : Tokens) {a b : Tokens} → word v ts ≡ Some a → open_at a ≡ Some b → AreLexical ts → AreLexical b
in_call v ts {a} {b} h o l = ((opens a).holds b o).lexical (behind_word v ts h l)

-- ---- functions on the document

common_prints : {ts rest : Tokens} {x : Common PathText} → IsCommon ts x rest → AreLexical ts → Prints (on.common_on (common_with finishing x))
common_prints (g.common {a = a} {b = b} {c = c} {x = x} {path = path} {variables = variables} d h s v) l =
    let at = behind_comma a h ((document_keeps d).lexical l) in
    printed.common_prints (common_with finishing (record { encoding = x; path = Written path; passing = variables }))
    ((printed.string_prints b at).holds (path, c) s) (printed.variables_print v (((string_keeps b).holds (path, c) s).lexical at))

exists_prints : {ts rest : Tokens} {x : ExistsCall PathText} → IsExistsCall ts x rest → AreLexical ts → Prints (exists_on (exists_with finishing x))
exists_prints (g.exists_call {ts = ts} {e = action} h o c e z) l =
    called_prints (codes "JSON_EXISTS") refl (and_prints (common_prints c (in_call w.JsonExists ts h o l)) (printed.exists_clause_prints action))

-- ON EMPTY and ON ERROR of JSON_VALUE and of a column
pub value_clauses_print : {ts a rest : Tokens} {empty error : ValueDo} → IsOptional (value_clause_at w.Empty) on_value.Null ts empty a → IsOptional (value_clause_at w.Error) on_value.Null a error rest
    → AreLexical ts → Prints (on.value_clauses_on empty error)
value_clauses_print {empty = empty} {error = error} e r l =
    printed.value_clauses_print empty error (printed.optional_value_clause w.Empty e l) (printed.optional_value_clause w.Error r ((optional_keeps (room.value_clause_keeps w.Empty) e).lexical l))

value_call_prints : {ts rest : Tokens} {x : ValueCall PathText} → IsValueCall ts x rest → AreLexical ts → Prints (value_call_on (value_call_with finishing x))
value_call_prints (g.value_call {ts = ts} h o c ty e r z) l =
    let at = in_call w.JsonValue ts h o l in
    let behind = (common_holds c).lexical at in
    called_prints (codes "JSON_VALUE") refl (and_prints (common_prints c at) (and_prints (printed.returning_prints ty) (value_clauses_print e r ((returned_holds ty).lexical behind))))

query_prints : {ts rest : Tokens} {x : QueryCall PathText} → IsQueryCall ts x rest → AreLexical ts → Prints (query_on (query_with finishing x))
query_prints (g.query_call {ts = ts} {clauses = clauses} h o c q z) l =
    called_prints (codes "JSON_QUERY") refl (and_prints (common_prints c (in_call w.JsonQuery ts h o l)) (printed.query_clauses_print clauses))

-- ---- values

behind_prints : (behind : Bool) → Prints (on.comma_behind behind)
behind_prints true = piece_prints Comma tt
behind_prints false = nothing_prints

array_clause_prints : (xs : Values Path) (n : Nulls) → Prints (array_clause_on xs n)
array_clause_prints NoValues n = nothing_prints
array_clause_prints (MoreValues x others) n = printed.nulls_print n

object_clauses_print : (xs : Members Path) (n : Nulls) (u : Bool) → Prints (object_clauses_on xs n u)
object_clauses_print NoMembers n u = nothing_prints
object_clauses_print (MoreMembers key x others) n u = and_prints (printed.nulls_print n) (printed.unique_prints u)

mutual
  pub value_prints : {s : Source} {ts rest : Tokens} {x : Value PathText} → IsValue s ts x rest → AreLexical ts → Prints (value_on (value_with finishing x))
  value_prints (g.literal {ts = ts} {rest = rest} {x = x} h) l = (printed.literal_prints ts l).holds (x, rest) h
  value_prints (g.column {ts = ts} {rest = rest} {name = n} h) l = piece_prints (Name n) ((printed.name_prints ts l).holds (n, rest) h)
  value_prints (g.exists d) l = exists_prints d l
  value_prints (g.value d) l = value_call_prints d l
  value_prints (g.query d) l = query_prints d l
  value_prints (g.is_json {x = x} d) l = printed.is_json_prints x
  value_prints (g.no_object h o z) l = called_prints (codes "JSON_OBJECT") refl nothing_prints
  value_prints (g.object {ts = ts} {xs = xs} {n = n} {u = u} h o d nulls unique z) l =
      called_prints (codes "JSON_OBJECT") refl (and_prints (members_print false d (in_call w.JsonObject ts h o l)) (object_clauses_print (members_with finishing xs) n u))
  value_prints (g.no_array h o z) l = called_prints (codes "JSON_ARRAY") refl nothing_prints
  value_prints (g.array {ts = ts} {xs = xs} {n = n} h o d nulls z) l =
      called_prints (codes "JSON_ARRAY") refl (and_prints (values_print false d (in_call w.JsonArray ts h o l)) (array_clause_prints (values_with finishing xs) n))

  values_print : {s : Source} {ts rest : Tokens} {xs : Values PathText} (behind : Bool) → IsValues s ts xs rest → AreLexical ts → Prints (values_on behind (values_with finishing xs))
  values_print behind (g.last_value d) l = and_prints (behind_prints behind) (value_prints d l)
  values_print behind (g.more_values {a = a} d c q) l =
      and_prints (behind_prints behind) (and_prints (value_prints d l) (values_print true q (behind_comma a c ((value_holds d).lexical l))))

  pub member_prints : {s : Source} {ts rest : Tokens} {x y : Value PathText} → IsMember s ts x y rest → AreLexical ts → Prints (member_on (value_with finishing x) (value_with finishing y))
  member_prints (g.keyed {ts = ts} {b = b} h d v q) l =
      let at = behind_word w.Key ts h l in
      and_prints (value_prints d at) (and_prints (word_prints (codes "VALUE") refl) (value_prints q (behind_word w.Value b v ((value_holds d).lexical at))))
  member_prints (g.valued {a = a} d v q) l = and_prints (value_prints d l) (and_prints (word_prints (codes "VALUE") refl) (value_prints q (behind_word w.Value a v ((value_holds d).lexical l))))
  member_prints (g.coloned {a = a} {b = b} d v q) l =
      and_prints (value_prints d l) (and_prints (word_prints (codes "VALUE") refl) (value_prints q (((colon_keeps a).holds b v).lexical ((value_holds d).lexical l))))

  members_print : {s : Source} {ts rest : Tokens} {xs : Members PathText} (behind : Bool) → IsMembers s ts xs rest → AreLexical ts → Prints (members_on behind (members_with finishing xs))
  members_print behind (g.last_member d) l = and_prints (behind_prints behind) (member_prints d l)
  members_print behind (g.more_members {a = a} d c q) l =
      and_prints (behind_prints behind) (and_prints (member_prints d l) (members_print true q (behind_comma a c ((member_holds d).lexical l))))
