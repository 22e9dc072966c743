-- What is in the grammar is read, whatever follows it, if that does not go on with it.
use Rattle.std.proofs.Common.{◌≡◌, ℕ, zero, suc, ◌<◌, ◌≤◌, Bool, true, false, cond, List, ◌∷◌, length, Option, Some, None, refl, ap, arith}
use Rattle.sj_base.specs.Options.{◌>>=◌}
use Rattle.sj_path_tree.specs.declared.parts.Literal.{Literal}
use Rattle.sj_value.specs.declared.clauses.QueryAction.TheVariants as on_query
use Rattle.sj_value.specs.declared.clauses.JsonKind.{JsonKind}
use Rattle.sj_value.specs.declared.clauses.JsonKind.TheVariants as json
use Rattle.sj_sql_token.specs.declared.token.Token.{Token}
use Rattle.sj_sql_token.specs.declared.token.Token.TheVariants as k
use Rattle.sj_sql_token.specs.declared.keyword.Keyword.{Keyword}
use Rattle.sj_sql_token.specs.declared.keyword.Keyword.TheVariants as w
use Rattle.sj_sql_grammar.specs.declared.clauses.Encoding.{Encoding}
use Rattle.sj_sql_grammar.specs.declared.clauses.Passed.{Passed}
use Rattle.sj_sql_grammar.specs.declared.clauses.QueryClauses.{QueryClauses}
use Rattle.sj_sql_grammar.specs.declared.clauses.Quotes.TheVariants as quotes
use Rattle.sj_sql_grammar.specs.declared.clauses.IsJsonCall.{IsJsonCall}
use Rattle.sj_sql_grammar.specs.Tree as t
use Rattle.sj_sql_grammar.specs.Tree.{PathText, Common, ExistsCall, ValueCall, QueryCall, Value, Values, Members, Item, ColumnOf, Columns, NamedPlan, PlanTree, Table, Statement}
use Rattle.sj_sql_grammar.specs.Phrases.{Tokens, Phrase, if_some, word, close_at, comma_at, constant_of, literal_at, type_at, format_at, passed_at, exists_clause_at, returning_at, value_clause_at, query_clause_at, wrapper_at, quotes_at, not_at, meant, kind_of, unique_at, unique_of, nulls_of, nulls_at}
use Rattle.sj_sql_grammar.specs.Grammar as g
use Rattle.sj_sql_grammar.specs.Grammar.{IsOptional, IsPassedOver, IsList, IsDocument, IsPassed, IsPassing, IsCommon, IsExistsCall, IsValueCall, AreQueryClauses, IsQueryCall, IsKind, IsOwnUnique, IsIsJson, Source, document, row, IsValue, IsValues, IsMember, IsMembers, IsColumnPath, IsColumn, IsColumns, IsColumnList, IsPlanExpr, IsUnion, IsCross, IsPlanPrim, operators, IsPlan, IsTable, IsPlainItem, IsRowItem, IsListedItem, IsSelect}
use Rattle.sj_sql_grammar.specs.Notes.{Notes, common_with, value_with, values_with, members_with, note_type, note_common, note_value, note_values, note_members, exists_with, value_call_with, query_with}
use Rattle.sj_sql_grammar.specs.Reading.{optional, passed_over, list_from, document_at, passing_at, query_clauses_at, begins_value, kind_at, is_json_at, common_at, exists_from, value_from, query_from, values_from, member_value_at, keyed_at, valued_at, member_at, members_from, members_to_end, object_from, values_to_end, array_from, asking_at, value_over, value_at}
use Rattle.sj_sql_grammar.proofs.ReadTokens.{bind_is, bind_none, some_on, none_on, said}
use Rattle.sj_sql_token.specs.Same.{same}
use Rattle.sj_sql_grammar.proofs.SpellingsTakeTokens.{word_eats, open_eats, comma_eats, colon_eats}
use Rattle.sj_sql_grammar.proofs.PartsTakeTokens.{value_eats, member_eats, passed_is}
use Rattle.sj_sql_grammar.proofs.FirstTokens.{through, close_leads, comma_leads, colon_leads, returning_leads, quotes_leads, unique_leads, exists_leads, nulls_leads, value_clause_leads, query_clause_leads, query_clauses_lead, value_error_alone, query_error_alone, meant_leads, name_not_word, name_not_literal, IsDoc, doc_is, other_word, word_not_literal, value_not_close, value_not_key, ends_value, EndsDocument, Ends, ends, ends_close, ends_comma, ends_colon, ends_with, ends_without, ends_nulls}

-- ---- what may stand, and what is repeated

pub optional_full : {A : Type 0} {phrase : Phrase A} {default x : A} {ts rest : Tokens} → IsOptional phrase default ts x rest → phrase rest ≡ None → optional phrase default ts ≡ Some (x, rest)
optional_full (g.there h) none = some_on _ _ _ h refl
optional_full g.absent none = none_on _ _ _ none refl

pub over_full : {A : Type 0} {phrase : Phrase A} {ts rest : Tokens} → IsPassedOver phrase ts rest → phrase rest ≡ None → passed_over phrase ts ≡ rest
over_full (g.passed h) none = some_on _ _ _ h refl
over_full g.missing none = none_on _ _ _ none refl

variables_full : {ts rest : Tokens} {xs : List Passed} → IsList IsPassed ts xs rest → comma_at rest ≡ None → (n : ℕ) → length ts ≤ n → list_from passed_at n ts ≡ Some (xs, rest)
unfolding list_from
variables_full (g.last {ts = ts} {rest = rest} {x = x} d) none zero le = absurd (omega (arith, (passed_is ts rest x d).shorter))
variables_full (g.last d) none (suc n) le = bind_is _ _ d (none_on _ _ _ none refl)
variables_full (g.more {ts = ts} {a = a} {x = x} d c q) none zero le = absurd (omega (arith, (passed_is ts a x d).shorter))
variables_full (g.more {ts = ts} {a = a} {b = b} {x = x} d c q) none (suc n) le =
    bind_is _ _ d (some_on _ _ _ c (bind_is _ _ (variables_full q none n (omega (arith, (passed_is ts a x d).shorter, after))) refl))
  where
    after : length b < length a
    after = comma_leads (λ x. length b < length x) a b c (omega arith)

-- ---- functions on the document

pub document_full : {ts rest : Tokens} {x : Encoding} → IsDocument ts x rest → format_at rest ≡ None → document_at ts ≡ Some (x, rest)
unfolding document_at
document_full (g.doc h o) none = bind_is _ _ h (optional_full o none)

-- neither PASSING nor a further variable follows
pub record NoPassing (ts : Tokens) : Type 0 where
  pub no_word : word w.Passing ts ≡ None
  pub no_comma : comma_at ts ≡ None

pub passing_full : {ts rest : Tokens} {xs : List Passed} → IsPassing ts xs rest → NoPassing rest → passing_at ts ≡ Some (xs, rest)
unfolding passing_at
passing_full g.nothing none = none_on _ _ _ none.no_word refl
passing_full (g.variables {a = a} h d) none = some_on _ _ _ h (variables_full d none.no_comma (length a) (omega arith))

pub comma_no_format : (ts rest : Tokens) → comma_at ts ≡ Some rest → format_at ts ≡ None
unfolding format_at
comma_no_format ts rest h = comma_leads (λ x. format_at x ≡ None) ts rest h refl

-- ---- what does not stand at a parenthesis that closes, and elsewhere

abbrev NotReturning : Tokens → Type 0
NotReturning ts = word w.Returning ts ≡ None

no_returning : (ts : Tokens) → NotReturning ts → returning_at ts ≡ None
unfolding returning_at
no_returning ts h = ap (λ o. o >>= type_at) h

pub close_no_value : (cause : Keyword) (ts rest : Tokens) → close_at ts ≡ Some rest → value_clause_at cause ts ≡ None
unfolding value_clause_at
close_no_value cause ts rest h = close_leads (λ x. value_clause_at cause x ≡ None) ts rest h refl

pub no_unique : (ts : Tokens) → meant unique_of ts ≡ None → unique_at ts ≡ None
unfolding unique_at
no_unique ts h = bind_none _ _ h

pub no_nulls : (ts : Tokens) → meant nulls_of ts ≡ None → nulls_at ts ≡ None
unfolding nulls_at
no_nulls ts h = bind_none _ _ h

-- ---- the clauses of JSON_QUERY

-- none of them stands there
pub record NoQueryClause (ts : Tokens) : Type 0 where
  pub no_wrapper : wrapper_at ts ≡ None
  pub no_quotes : quotes_at ts ≡ None
  pub no_action : (cause : Keyword) → query_clause_at cause ts ≡ None

pub close_no_query : (ts : Tokens) → NoQueryClause (k.Close ∷ ts)
unfolding wrapper_at quotes_at query_clause_at
close_no_query ts = record { no_wrapper = refl; no_quotes = refl; no_action = λ cause. refl }

pub comma_no_query : (ts : Tokens) → NoQueryClause (k.Comma ∷ ts)
unfolding wrapper_at quotes_at query_clause_at
comma_no_query ts = record { no_wrapper = refl; no_quotes = refl; no_action = λ cause. refl }

abbrev NotWrapped : Tokens → Type 0
NotWrapped ts = wrapper_at ts ≡ None

-- no wrapper stands at a QUOTES clause, at an action or behind them
wrapper_stops : {a b c rest : Tokens} {x : _} {y z : _} → IsOptional quotes_at quotes.Absent a x b → IsOptional (query_clause_at w.Empty) on_query.Null b y c → IsOptional (query_clause_at w.Error) on_query.Null c z rest
    → NotWrapped rest → NotWrapped a
unfolding wrapper_at
wrapper_stops {a} {b} {c} quote empty error none =
    through NotWrapped quote (λ h. quotes_leads NotWrapped a _ h (λ _ _. refl) (λ _ _. refl))
    (through NotWrapped empty (λ h. query_clause_leads NotWrapped w.Empty b _ h (λ _ _. refl) (λ _ _. refl) (λ _ _. refl))
    (through NotWrapped error (λ h. query_clause_leads NotWrapped w.Error c _ h (λ _ _. refl) (λ _ _. refl) (λ _ _. refl)) none))

abbrev NotQuoted : Tokens → Type 0
NotQuoted ts = quotes_at ts ≡ None

quotes_stop : {b c rest : Tokens} {y z : _} → IsOptional (query_clause_at w.Empty) on_query.Null b y c → IsOptional (query_clause_at w.Error) on_query.Null c z rest → NotQuoted rest → NotQuoted b
unfolding quotes_at
quotes_stop {b} {c} empty error none =
    through NotQuoted empty (λ h. query_clause_leads NotQuoted w.Empty b _ h (λ _ _. refl) (λ _ _. refl) (λ _ _. refl))
    (through NotQuoted error (λ h. query_clause_leads NotQuoted w.Error c _ h (λ _ _. refl) (λ _ _. refl) (λ _ _. refl)) none)

pub query_clauses_full : {ts rest : Tokens} {x : QueryClauses} → AreQueryClauses ts x rest → NoQueryClause rest → query_clauses_at ts ≡ Some (x, rest)
unfolding query_clauses_at
query_clauses_full (g.query_clauses {c = c} wrap quote empty error) none =
    bind_is _ _ (optional_full wrap (wrapper_stops quote empty error none.no_wrapper)) (bind_is _ _ (optional_full quote (quotes_stop empty error none.no_quotes))
    (bind_is _ _ (optional_full empty (through (λ y. query_clause_at w.Empty y ≡ None) error (λ h. query_error_alone c _ h) (none.no_action w.Empty)))
    (bind_is _ _ (optional_full error (none.no_action w.Error)) refl)))

-- ---- IS JSON

no_not : (ts rest : Tokens) → word w.Json ts ≡ Some rest → not_at ts ≡ None
unfolding not_at
no_not ts rest h = bind_none _ _ (said (λ x. word w.Not x ≡ None) w.Json ts rest h (λ _. refl))

-- what the kind of an IS JSON asks of what follows it
pub record EndsKind (ts : Tokens) : Type 0 where
  pub not_begun : begins_value ts ≡ false
  pub no_kind : meant kind_of ts ≡ None
  pub separated : (a : Tokens) → word w.Value ts ≡ Some a → begins_value a ≡ true

kind_full : {ts rest : Tokens} {x : JsonKind} → IsKind ts x rest → EndsKind rest → kind_at ts ≡ Some (x, rest)
unfolding kind_at
kind_full (g.value_kind {ts = ts} {rest = rest} h) e = some_on _ _ _ h (ap (λ b. Some (json.Value, cond b ts rest)) e.not_begun)
kind_full (g.other_kind {ts = ts} {rest = rest} {x = x} h) e =
    none_on _ _ _ (meant_leads (λ y. word w.Value y ≡ None) kind_of ts (x, rest) h (λ v text r q. by v text r q)) (some_on _ _ _ h refl)
  where
    by : (v : Keyword) (text : List ℕ) (r : Tokens) → kind_of v ≡ Some x → word w.Value (k.Word v text ∷ r) ≡ None
    by w.Array text r q = refl
    by w.Object text r q = refl
    by w.Scalar text r q = refl
    by _ text r q = absurd cc
kind_full (g.no_kind {ts = ts}) e = go (word w.Value ts) refl
  where
    go : (o : Option Tokens) → word w.Value ts ≡ o → if_some o (λ a. Some (json.Value, cond (begins_value a) ts a)) (optional (meant kind_of) json.Value ts) ≡ Some (json.Value, ts)
    go None h = none_on _ _ _ e.no_kind refl
    go (Some a) h = ap (λ b. Some (json.Value, cond b ts a)) (e.separated a h)

unique_full : {ts rest : Tokens} {x : Bool} → IsOwnUnique ts x rest → optional unique_at false ts ≡ Some (x, rest)
unique_full (g.own h) = some_on _ _ _ h refl
unique_full (g.none_follows h) = none_on _ _ _ h refl

unique_kind : {ts rest : Tokens} {x : Bool} → IsOwnUnique ts x rest → EndsDocument rest → EndsKind ts
unique_kind (g.own {ts = ts} {rest = rest} {x = x} h) e =
    unique_leads EndsKind ts (x, rest) h (λ _ _. record { not_begun = refl; no_kind = refl; separated = λ a q. absurd cc }) (λ _ _. record { not_begun = refl; no_kind = refl; separated = λ a q. absurd cc })
unique_kind (g.none_follows h) e = record { not_begun = e.not_begun; no_kind = e.no_kind; separated = e.separated }

is_json_full : {ts rest : Tokens} {x : IsJsonCall} → IsIsJson ts x rest → EndsDocument rest → is_json_at ts ≡ Some (x, rest)
unfolding is_json_at
is_json_full (g.is_json_call {c = c} {d = d} h i o j kind u) e =
    bind_is _ _ h (bind_is _ _ i (bind_is _ _ (optional_full o (no_not c d j)) (bind_is _ _ j (bind_is _ _ (kind_full kind (unique_kind u e)) (bind_is _ _ (unique_full u) refl)))))

-- ---- how the calls begin

-- the word with which a part begins
pub record Word (v : Keyword) (ts : Tokens) : Type 0 where
  after : Tokens
  is : word v ts ≡ Some after

exists_word : {ts rest : Tokens} {x : ExistsCall PathText} → IsExistsCall ts x rest → Word w.JsonExists ts
exists_word (g.exists_call {a = a} h o x e z) = record { after = a; is = h }

value_word : {ts rest : Tokens} {x : ValueCall PathText} → IsValueCall ts x rest → Word w.JsonValue ts
value_word (g.value_call {a = a} h o x ty e r z) = record { after = a; is = h }

query_word : {ts rest : Tokens} {x : QueryCall PathText} → IsQueryCall ts x rest → Word w.JsonQuery ts
query_word (g.query_call {a = a} h o x q z) = record { after = a; is = h }

value_not_exists : {ts rest : Tokens} {x : ValueCall PathText} → IsValueCall ts x rest → word w.JsonExists ts ≡ None
value_not_exists {ts} d = let i = value_word d in other_word w.JsonValue w.JsonExists refl ts i.after i.is

query_not_exists : {ts rest : Tokens} {x : QueryCall PathText} → IsQueryCall ts x rest → word w.JsonExists ts ≡ None
query_not_exists {ts} d = let i = query_word d in other_word w.JsonQuery w.JsonExists refl ts i.after i.is

query_not_value : {ts rest : Tokens} {x : QueryCall PathText} → IsQueryCall ts x rest → word w.JsonValue ts ≡ None
query_not_value {ts} d = let i = query_word d in other_word w.JsonQuery w.JsonValue refl ts i.after i.is

json_doc : {ts rest : Tokens} {x : IsJsonCall} → IsIsJson ts x rest → IsDoc ts
json_doc (g.is_json_call {ts = ts} {a = a} h i o j kind u) = doc_is ts a h

-- ---- what follows the members of an object and the values of an array

pub close_no_unique : (ts rest : Tokens) → close_at ts ≡ Some rest → unique_at ts ≡ None
close_no_unique ts rest h = no_unique ts (close_leads (λ x. meant unique_of x ≡ None) ts rest h refl)

pub close_no_nulls : (ts rest : Tokens) → close_at ts ≡ Some rest → nulls_at ts ≡ None
close_no_nulls ts rest h = no_nulls ts (close_leads (λ x. meant nulls_of x ≡ None) ts rest h refl)

pub object_nulls : {d e rest : Tokens} {x : Bool} → IsOptional unique_at false d x e → close_at e ≡ Some rest → nulls_at d ≡ None
object_nulls {d} {e} {rest} u z =
    no_nulls d (through (λ y. meant nulls_of y ≡ None) u (λ h. unique_leads (λ y. meant nulls_of y ≡ None) d _ h (λ _ _. refl) (λ _ _. refl)) (close_leads (λ y. meant nulls_of y ≡ None) e rest z refl))

pub object_comma : {c d e rest : Tokens} {default x : _} {y : Bool} → IsOptional nulls_at default c x d → IsOptional unique_at false d y e → close_at e ≡ Some rest → comma_at c ≡ None
object_comma {c} {d} {e} {rest} nl u z =
    through (λ y. comma_at y ≡ None) nl (λ h. nulls_leads (λ y. comma_at y ≡ None) c _ h (λ _ _. refl) (λ _ _. refl))
    (through (λ y. comma_at y ≡ None) u (λ h. unique_leads (λ y. comma_at y ≡ None) d _ h (λ _ _. refl) (λ _ _. refl)) (close_leads (λ y. comma_at y ≡ None) e rest z refl))

pub object_ends : (s : Source) {c d e rest : Tokens} {default x : _} {y : Bool} → IsOptional nulls_at default c x d → IsOptional unique_at false d y e → close_at e ≡ Some rest → Ends s c
object_ends s {c} {d} {e} {rest} nl u z =
    through (Ends s) nl (λ h. ends s (ends_nulls c _ h))
    (through (Ends s) u (λ h. unique_leads (Ends s) d _ h (λ t r. ends s (ends_with t r)) (λ t r. ends s (ends_without t r))) (close_leads (Ends s) e rest z (ends s (ends_close rest))))

pub array_comma : {c d rest : Tokens} {default x : _} → IsOptional nulls_at default c x d → close_at d ≡ Some rest → comma_at c ≡ None
array_comma {c} {d} {rest} nl z = through (λ y. comma_at y ≡ None) nl (λ h. nulls_leads (λ y. comma_at y ≡ None) c _ h (λ _ _. refl) (λ _ _. refl)) (close_leads (λ y. comma_at y ≡ None) d rest z refl)

pub array_ends : (s : Source) {c d rest : Tokens} {default x : _} → IsOptional nulls_at default c x d → close_at d ≡ Some rest → Ends s c
array_ends s {c} {d} {rest} nl z = through (Ends s) nl (λ h. ends s (ends_nulls c _ h)) (close_leads (Ends s) d rest z (ends s (ends_close rest)))

values_not_close : {s : Source} {ts rest : Tokens} {xs : Values PathText} → IsValues s ts xs rest → close_at ts ≡ None
values_not_close (g.last_value d) = value_not_close d
values_not_close (g.more_values d c q) = value_not_close d

member_not_close : {s : Source} {ts rest : Tokens} {x y : Value PathText} → IsMember s ts x y rest → close_at ts ≡ None
member_not_close (g.keyed {ts = ts} {a = a} h d v q) = said (λ y. close_at y ≡ None) w.Key ts a h (λ _. refl)
member_not_close (g.valued d v q) = value_not_close d
member_not_close (g.coloned d v q) = value_not_close d

members_not_close : {s : Source} {ts rest : Tokens} {xs : Members PathText} → IsMembers s ts xs rest → close_at ts ≡ None
members_not_close (g.last_member d) = member_not_close d
members_not_close (g.more_members d c q) = member_not_close d

-- a value that begins with the name of a function on the document
asked : {A : Type 0} {r : A} {ts : Tokens} (fl : Literal × Tokens → A) (fo fa : Tokens → A) (y : A) (v : Keyword) → constant_of v ≡ None → same v w.JsonObject ≡ false → same v w.JsonArray ≡ false → Word v ts → y ≡ r
    → if_some (literal_at ts) fl (if_some (word w.JsonObject ts) fo (if_some (word w.JsonArray ts) fa y)) ≡ r
asked {ts = ts} fl fo fa y v c o a i h = none_on _ _ _ (word_not_literal v c ts i.after i.is) (none_on _ _ _ (other_word v w.JsonObject o ts i.after i.is) (none_on _ _ _ (other_word v w.JsonArray a ts i.after i.is) h))

module _ {P F : Type 0} (n : Notes P F) where
  pub common_full : {ts rest : Tokens} {x : Common PathText} → IsCommon ts x rest → NoPassing rest → (f : F) → common_at n f ts ≡ Some (common_with n x, note_common n x f, rest)
  unfolding common_at
  common_full (g.common {a = a} {b = b} d h s v) none f =
      bind_is _ _ (document_full d (comma_no_format a b h)) (bind_is _ _ h (bind_is _ _ s (bind_is _ _ (passing_full v none) refl)))

  exists_stop : (ts rest : Tokens) → close_at ts ≡ Some rest → exists_clause_at ts ≡ None
  unfolding exists_clause_at
  exists_stop ts rest h = close_leads (λ x. exists_clause_at x ≡ None) ts rest h refl

  no : {t : Token} {ts : Tokens} → word w.Passing (t ∷ ts) ≡ None → comma_at (t ∷ ts) ≡ None → NoPassing (t ∷ ts)
  no p q = record { no_word = p; no_comma = q }

  exists_full : {ts rest : Tokens} {x : ExistsCall PathText} (y : _) → IsExistsCall ts x rest → (f : F)
      → if_some (word w.JsonExists ts) (λ a. exists_from n f a) y ≡ Some (t.Exists (exists_with n x), note_common n x.common f, rest)
  unfolding exists_from
  exists_full y (g.exists_call {c = c} {d = d} {rest = rest} h o x e z) f =
      some_on _ _ _ h (bind_is _ _ o (bind_is _ _ (common_full x stop f) (bind_is _ _ (optional_full e (exists_stop d rest z)) (bind_is _ _ z refl))))
    where
      stop : NoPassing c
      stop = through NoPassing e (λ h. exists_leads NoPassing c _ h (λ _ _. no refl refl) (λ _ _. no refl refl) (λ _ _. no refl refl) (λ _ _. no refl refl)) (close_leads NoPassing d rest z (no refl refl))

  value_call_full : {ts rest : Tokens} {x : ValueCall PathText} (y : _) → IsValueCall ts x rest → (f : F)
      → if_some (word w.JsonValue ts) (λ a. value_from n f a) y ≡ Some (t.ValueOf (value_call_with n x), note_type n x.ty (note_common n x.common f), rest)
  unfolding value_from
  value_call_full y (g.value_call {c = c} {d = d} {e = e} {f = l} {rest = rest} h o x ty empty error z) f =
      some_on _ _ _ h (bind_is _ _ o (bind_is _ _ (common_full x stop f) (bind_is _ _ (optional_full ty no_type) (bind_is _ _ (optional_full empty no_empty)
      (bind_is _ _ (optional_full error no_error) (bind_is _ _ z refl))))))
    where
      stop : NoPassing c
      stop = through NoPassing ty (λ h. returning_leads NoPassing c _ h (λ _ _. no refl refl))
          (through NoPassing empty (λ h. value_clause_leads NoPassing w.Empty d _ h (λ _ _. no refl refl) (λ _ _. no refl refl) (λ _ _. no refl refl))
          (through NoPassing error (λ h. value_clause_leads NoPassing w.Error e _ h (λ _ _. no refl refl) (λ _ _. no refl refl) (λ _ _. no refl refl)) (close_leads NoPassing l rest z (no refl refl))))

      no_type : returning_at d ≡ None
      no_type = no_returning d (through NotReturning empty (λ h. value_clause_leads NotReturning w.Empty d _ h (λ _ _. refl) (λ _ _. refl) (λ _ _. refl))
          (through NotReturning error (λ h. value_clause_leads NotReturning w.Error e _ h (λ _ _. refl) (λ _ _. refl) (λ _ _. refl)) (close_leads NotReturning l rest z refl)))

      no_empty : value_clause_at w.Empty e ≡ None
      no_empty = through (λ ts. value_clause_at w.Empty ts ≡ None) error (λ h. value_error_alone e _ h) (close_no_value w.Empty l rest z)

      no_error : value_clause_at w.Error l ≡ None
      no_error = close_no_value w.Error l rest z

  query_full : {ts rest : Tokens} {x : QueryCall PathText} (y : _) → IsQueryCall ts x rest → (f : F)
      → if_some (word w.JsonQuery ts) (λ a. query_from n f a) y ≡ Some (t.Query (query_with n x), note_common n x.common f, rest)
  unfolding query_from
  query_full y (g.query_call {c = c} {d = d} {rest = rest} h o x clauses z) f =
      some_on _ _ _ h (bind_is _ _ o (bind_is _ _ (common_full x stop f) (bind_is _ _ (query_clauses_full clauses (close_leads NoQueryClause d rest z (close_no_query rest))) (bind_is _ _ z refl))))
    where
      stop : NoPassing c
      stop = query_clauses_lead NoPassing clauses (λ _ _. no refl refl) (λ _ _. no refl refl) (λ _ _. no refl refl) (λ _ _. no refl refl) (λ _ _. no refl refl) (λ _ _. no refl refl) (λ _ _. no refl refl)
          (close_leads NoPassing d rest z (no refl refl))

  -- ---- values

  mutual
    unfolding value_over value_at asking_at object_from array_from members_to_end values_to_end values_from member_value_at keyed_at valued_at member_at members_from

    pub value_full : {s : Source} {ts rest : Tokens} {x : Value PathText} → IsValue s ts x rest → Ends s rest → (m : ℕ) → length ts ≤ m → (f : F)
        → value_over n s (value_at n s m) f ts ≡ Some (value_with n x, note_value n x f, rest)
    value_full (g.literal h) e m le f = some_on _ _ _ h refl
    value_full (g.column {ts = ts} {rest = rest} {name = x} h) e m le f =
        none_on _ _ _ (name_not_literal ts (x, rest) h) (none_on _ _ _ (name_not_word w.JsonObject refl ts (x, rest) h) (none_on _ _ _ (name_not_word w.JsonArray refl ts (x, rest) h) (bind_is _ _ h refl)))
    value_full (g.exists d) e m le f = asked _ _ _ _ w.JsonExists refl refl refl (exists_word d) (exists_full _ d f)
    value_full (g.value d) e m le f = asked _ _ _ _ w.JsonValue refl refl refl (value_word d) (none_on _ _ _ (value_not_exists d) (value_call_full _ d f))
    value_full (g.query d) e m le f = asked _ _ _ _ w.JsonQuery refl refl refl (query_word d) (none_on _ _ _ (query_not_exists d) (none_on _ _ _ (query_not_value d) (query_full _ d f)))
    value_full (g.is_json {ts = ts} d) e m le f =
        let i = json_doc d in
        none_on _ _ _ (name_not_literal ts i.name i.is) (none_on _ _ _ (name_not_word w.JsonObject refl ts i.name i.is) (none_on _ _ _ (name_not_word w.JsonArray refl ts i.name i.is)
        (none_on _ _ _ (name_not_word w.JsonExists refl ts i.name i.is) (none_on _ _ _ (name_not_word w.JsonValue refl ts i.name i.is) (none_on _ _ _ (name_not_word w.JsonQuery refl ts i.name i.is)
        (bind_is _ _ (is_json_full d e) refl))))))
    value_full (g.no_object {ts = ts} {a = a} h o z) e m le f = none_on _ _ _ (word_not_literal w.JsonObject refl ts a h) (some_on _ _ _ h (bind_is _ _ o (some_on _ _ _ z refl)))
    value_full (g.object {ts = ts} {a = a} {b = b} h o d nl u z) e zero le f = absurd (omega (arith, ((word_eats w.JsonObject ts refl).holds a h).shorter))
    value_full {s = s} (g.object {ts = ts} {a = a} {b = b} {c = c} {d = i} {e = j} {rest = rest} h o d nl u z) e (suc m) le f =
        none_on _ _ _ (word_not_literal w.JsonObject refl ts a h) (some_on _ _ _ h (bind_is _ _ o (none_on _ _ _ (members_not_close d)
        (bind_is _ _ (members_full d (object_comma nl u z) (object_ends s nl u z) m (omega (arith, ((word_eats w.JsonObject ts refl).holds a h).shorter, ((open_eats a).holds b o).shorter)) (length b) (omega arith) f)
        (bind_is _ _ (optional_full nl (object_nulls u z)) (bind_is _ _ (optional_full u (close_no_unique j rest z)) (bind_is _ _ z refl)))))))
    value_full (g.no_array {ts = ts} {a = a} h o z) e m le f =
        none_on _ _ _ (word_not_literal w.JsonArray refl ts a h) (none_on _ _ _ (other_word w.JsonArray w.JsonObject refl ts a h) (some_on _ _ _ h (bind_is _ _ o (some_on _ _ _ z refl))))
    value_full (g.array {ts = ts} {a = a} {b = b} h o d nl z) e zero le f = absurd (omega (arith, ((word_eats w.JsonArray ts refl).holds a h).shorter))
    value_full {s = s} (g.array {ts = ts} {a = a} {b = b} {c = c} {d = i} {rest = rest} h o d nl z) e (suc m) le f =
        none_on _ _ _ (word_not_literal w.JsonArray refl ts a h) (none_on _ _ _ (other_word w.JsonArray w.JsonObject refl ts a h) (some_on _ _ _ h (bind_is _ _ o (none_on _ _ _ (values_not_close d)
        (bind_is _ _ (values_full d (array_comma nl z) (array_ends s nl z) m (omega (arith, ((word_eats w.JsonArray ts refl).holds a h).shorter, ((open_eats a).holds b o).shorter)) (length b) (omega arith) f)
        (bind_is _ _ (optional_full nl (close_no_nulls i rest z)) (bind_is _ _ z refl)))))))

    pub values_full : {s : Source} {ts rest : Tokens} {xs : Values PathText} → IsValues s ts xs rest → comma_at rest ≡ None → Ends s rest → (m : ℕ) → length ts ≤ m → (turns : ℕ) → length ts ≤ turns → (f : F)
        → values_from n (value_at n s (suc m)) turns f ts ≡ Some (values_with n xs, note_values n xs f, rest)
    values_full (g.last_value d) none e m le zero lt f = absurd (omega (arith, (value_eats d).shorter))
    values_full (g.last_value d) none e m le (suc turns) lt f = bind_is _ _ (value_full d e m le f) (none_on _ _ _ none refl)
    values_full (g.more_values d c q) none e m le zero lt f = absurd (omega (arith, (value_eats d).shorter))
    values_full {s = s} (g.more_values {a = a} {b = b} {x = x} d c q) none e m le (suc turns) lt f =
        bind_is _ _ (value_full d (comma_leads (Ends s) a b c (ends s (ends_comma b))) m le f) (some_on _ _ _ c
        (bind_is _ _ (values_full q none e m (omega (arith, (value_eats d).shorter, ((comma_eats a).holds b c).shorter)) turns (omega (arith, (value_eats d).shorter, ((comma_eats a).holds b c).shorter)) (note_value n x f)) refl))

    pub member_full : {s : Source} {ts rest : Tokens} {x y : Value PathText} → IsMember s ts x y rest → Ends s rest → (m : ℕ) → length ts ≤ m → (f : F)
        → member_at n (value_at n s (suc m)) f ts ≡ Some ((value_with n x, value_with n y), note_value n y (note_value n x f), rest)
    member_full {s = s} (g.keyed {ts = ts} {a = a} {b = b} {c = c} {rest = rest} {x = x} h d v q) e m le f =
        some_on _ _ _ h (bind_is _ _ (value_full d (ends_value s b c rest v q e) m (omega (arith, ((word_eats w.Key ts refl).holds a h).shorter)) f)
        (bind_is _ _ v (bind_is _ _ (value_full q e m (omega (arith, ((word_eats w.Key ts refl).holds a h).shorter, (value_eats d).shorter, ((word_eats w.Value b refl).holds c v).shorter)) (note_value n x f)) refl)))
    member_full {s = s} (g.valued {a = a} {b = b} {rest = rest} {x = x} d v q) e m le f =
        none_on _ _ _ (value_not_key d) (bind_is _ _ (value_full d (ends_value s a b rest v q e) m le f)
        (some_on _ _ _ v (bind_is _ _ (value_full q e m (omega (arith, (value_eats d).shorter, ((word_eats w.Value a refl).holds b v).shorter)) (note_value n x f)) refl)))
    member_full {s = s} (g.coloned {a = a} {b = b} {x = x} d v q) e m le f =
        none_on _ _ _ (value_not_key d) (bind_is _ _ (value_full d (colon_leads (Ends s) a b v (ends s (ends_colon b))) m le f)
        (none_on _ _ _ (colon_leads (λ y. word w.Value y ≡ None) a b v refl) (bind_is _ _ v (bind_is _ _ (value_full q e m (omega (arith, (value_eats d).shorter, ((colon_eats a).holds b v).shorter)) (note_value n x f)) refl))))

    pub members_full : {s : Source} {ts rest : Tokens} {xs : Members PathText} → IsMembers s ts xs rest → comma_at rest ≡ None → Ends s rest → (m : ℕ) → length ts ≤ m → (turns : ℕ) → length ts ≤ turns → (f : F)
        → members_from n (value_at n s (suc m)) turns f ts ≡ Some (members_with n xs, note_members n xs f, rest)
    members_full (g.last_member d) none e m le zero lt f = absurd (omega (arith, (member_eats d).shorter))
    members_full (g.last_member d) none e m le (suc turns) lt f = bind_is _ _ (member_full d e m le f) (none_on _ _ _ none refl)
    members_full (g.more_members d c q) none e m le zero lt f = absurd (omega (arith, (member_eats d).shorter))
    members_full {s = s} (g.more_members {a = a} {b = b} {x = x} {y = y} d c q) none e m le (suc turns) lt f =
        bind_is _ _ (member_full d (comma_leads (Ends s) a b c (ends s (ends_comma b))) m le f) (some_on _ _ _ c
        (bind_is _ _ (members_full q none e m (omega (arith, (member_eats d).shorter, ((comma_eats a).holds b c).shorter)) turns (omega (arith, (member_eats d).shorter, ((comma_eats a).holds b c).shorter)) (note_value n y (note_value n x f))) refl))
