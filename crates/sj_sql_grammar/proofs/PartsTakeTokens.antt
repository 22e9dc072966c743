-- Each part of the grammar takes tokens, and none of them is the word FROM.
use Rattle.std.proofs.Common.{List, refl}
use Rattle.sj_sql_token.specs.declared.keyword.Keyword.TheVariants as w
use Rattle.sj_sql_grammar.specs.declared.clauses.Encoding.{Encoding}
use Rattle.sj_sql_grammar.specs.declared.clauses.Passed.{Passed}
use Rattle.sj_sql_grammar.specs.declared.clauses.QueryClauses.{QueryClauses}
use Rattle.sj_sql_grammar.specs.declared.clauses.IsJsonCall.{IsJsonCall}
use Rattle.sj_value.specs.declared.clauses.JsonKind.{JsonKind}
use Rattle.sj_sql_grammar.specs.Tree.{PathText, Common, ExistsCall, ValueCall, QueryCall, Value, Values, Members, Item, ColumnOf, Columns, NamedPlan}
use Rattle.sj_sql_grammar.specs.Phrases.{Tokens, Phrase, kind_of}
use Rattle.sj_sql_grammar.specs.Grammar as g
use Rattle.sj_sql_grammar.specs.Grammar.{IsOptional, IsPassedOver, IsList, IsDocument, IsPassed, IsPassing, IsCommon, IsExistsCall, IsValueCall, AreQueryClauses, IsQueryCall, IsKind, IsOwnUnique, IsIsJson, Source, IsValue, IsValues, IsMember, IsMembers, IsColumnPath, IsColumn, IsColumns, IsColumnList, IsPlanExpr, IsUnion, IsCross, IsPlanPrim, IsPlan, IsTable, IsPlainItem, IsRowItem, IsListedItem}
use Rattle.sj_sql_grammar.proofs.ReadTokens.{If}
use Rattle.sj_sql_grammar.proofs.SpellingsTakeTokens.{Eats, Passes, Takes, stays, passes, eats, and_eats, both, joined, word_eats, open_eats, close_eats, comma_eats, colon_eats, string_eats, name_eats, doc_eats, meant_eats, literal_eats, type_eats, encoding_eats, format_eats, passed_eats, exists_clause_eats, returning_eats, value_clause_eats, query_clause_eats, wrapper_eats, quotes_eats, not_eats, unique_eats, nulls_eats, alias_eats, path_name_eats, path_eats, nested_path_eats, formatted_eats, existence_eats}

-- ---- what may stand, and what is repeated

pub optional_passes : {A : Type 0} {phrase : Phrase A} {default x : A} {ts rest : Tokens} → ((ts : Tokens) → If (Takes ts) (phrase ts)) → IsOptional phrase default ts x rest → Passes ts rest
optional_passes {x = x} {ts = ts} {rest = rest} p (g.there h) = passes ((p ts).holds (x, rest) h)
optional_passes {ts = ts} p g.absent = stays ts

pub over_passes : {A : Type 0} {phrase : Phrase A} {ts rest : Tokens} → ((ts : Tokens) → If (Takes ts) (phrase ts)) → IsPassedOver phrase ts rest → Passes ts rest
over_passes {ts = ts} {rest = rest} p (g.passed {x = x} h) = passes ((p ts).holds (x, rest) h)
over_passes {ts = ts} p g.missing = stays ts

pub list_eats : {A : Type 0} {IsOne : Tokens → A → Tokens → Type 0} {xs : List A} {ts rest : Tokens} → ((ts rest : Tokens) (x : A) → IsOne ts x rest → Eats ts rest) → IsList IsOne ts xs rest → Eats ts rest
list_eats {ts = ts} {rest = rest} one (g.last {x = x} d) = one ts rest x d
list_eats {ts = ts} one (g.more {a = a} {b = b} {x = x} d c q) = joined (one ts a x d) (joined ((comma_eats a).holds b c) (list_eats one q))

-- ---- functions on the document

pub document_eats : {ts rest : Tokens} {x : Encoding} → IsDocument ts x rest → Eats ts rest
document_eats (g.doc {ts = ts} {a = a} h o) = eats ((doc_eats ts).holds a h) (optional_passes format_eats o)

pub passed_is : (ts rest : Tokens) (x : Passed) → IsPassed ts x rest → Eats ts rest
passed_is ts rest x h = (passed_eats ts).holds (x, rest) h

pub variables_pass : {ts rest : Tokens} {xs : List Passed} → IsPassing ts xs rest → Passes ts rest
variables_pass (g.nothing {ts = ts}) = stays ts
variables_pass (g.variables {ts = ts} {a = a} h d) = passes (joined ((word_eats w.Passing ts refl).holds a h) (list_eats passed_is d))

pub common_eats : {ts rest : Tokens} {x : Common PathText} → IsCommon ts x rest → Eats ts rest
common_eats (g.common {a = a} {b = b} {c = c} {path = path} d h s v) = joined (document_eats d) (eats (joined ((comma_eats a).holds b h) ((string_eats b).holds (path, c) s)) (variables_pass v))

pub exists_eats : {ts rest : Tokens} {x : ExistsCall PathText} → IsExistsCall ts x rest → Eats ts rest
exists_eats (g.exists_call {ts = ts} {a = a} {b = b} {d = d} {rest = rest} h o c e z) =
    joined ((word_eats w.JsonExists ts refl).holds a h) (joined ((open_eats a).holds b o) (joined (common_eats c) (and_eats (optional_passes exists_clause_eats e) ((close_eats d).holds rest z))))

pub value_call_eats : {ts rest : Tokens} {x : ValueCall PathText} → IsValueCall ts x rest → Eats ts rest
value_call_eats (g.value_call {ts = ts} {a = a} {b = b} {f = f} {rest = rest} h o c ty e r z) =
    joined ((word_eats w.JsonValue ts refl).holds a h) (joined ((open_eats a).holds b o) (joined (common_eats c)
    (and_eats (both (optional_passes returning_eats ty) (both (optional_passes (value_clause_eats w.Empty refl) e) (optional_passes (value_clause_eats w.Error refl) r))) ((close_eats f).holds rest z))))

pub query_clauses_pass : {ts rest : Tokens} {x : QueryClauses} → AreQueryClauses ts x rest → Passes ts rest
query_clauses_pass (g.query_clauses wr q e r) =
    both (optional_passes wrapper_eats wr) (both (optional_passes quotes_eats q) (both (optional_passes (query_clause_eats w.Empty refl) e) (optional_passes (query_clause_eats w.Error refl) r)))

pub query_eats : {ts rest : Tokens} {x : QueryCall PathText} → IsQueryCall ts x rest → Eats ts rest
query_eats (g.query_call {ts = ts} {a = a} {b = b} {d = d} {rest = rest} h o c q z) =
    joined ((word_eats w.JsonQuery ts refl).holds a h) (joined ((open_eats a).holds b o) (joined (common_eats c) (and_eats (query_clauses_pass q) ((close_eats d).holds rest z))))

kind_passes : {ts rest : Tokens} {x : JsonKind} → IsKind ts x rest → Passes ts rest
kind_passes (g.value_kind {ts = ts} {rest = rest} h) = passes ((word_eats w.Value ts refl).holds rest h)
kind_passes (g.other_kind {ts = ts} {rest = rest} {x = x} h) = passes ((meant_eats kind_of refl ts).holds (x, rest) h)
kind_passes (g.no_kind {ts = ts}) = stays ts

own_passes : {ts rest : Tokens} {x : _} → IsOwnUnique ts x rest → Passes ts rest
own_passes (g.own {ts = ts} {rest = rest} {x = x} h) = passes ((unique_eats ts).holds (x, rest) h)
own_passes (g.none_follows {ts = ts} h) = stays ts

pub is_json_eats : {ts rest : Tokens} {x : IsJsonCall} → IsIsJson ts x rest → Eats ts rest
is_json_eats (g.is_json_call {ts = ts} {a = a} {b = b} {c = c} {d = d} h i n j kind u) =
    joined ((doc_eats ts).holds a h) (eats ((word_eats w.Is a refl).holds b i) (both (optional_passes not_eats n) (both (passes ((word_eats w.Json c refl).holds d j)) (both (kind_passes kind) (own_passes u)))))

-- ---- values

mutual
  pub value_eats : {s : Source} {ts rest : Tokens} {x : Value PathText} → IsValue s ts x rest → Eats ts rest
  value_eats (g.literal {ts = ts} {rest = rest} {x = x} h) = (literal_eats ts).holds (x, rest) h
  value_eats (g.column {ts = ts} {rest = rest} {name = n} h) = (name_eats ts).holds (n, rest) h
  value_eats (g.exists d) = exists_eats d
  value_eats (g.value d) = value_call_eats d
  value_eats (g.query d) = query_eats d
  value_eats (g.is_json d) = is_json_eats d
  value_eats (g.no_object {ts = ts} {a = a} {b = b} {rest = rest} h o z) = joined ((word_eats w.JsonObject ts refl).holds a h) (joined ((open_eats a).holds b o) ((close_eats b).holds rest z))
  value_eats (g.object {ts = ts} {a = a} {b = b} {e = e} {rest = rest} h o d n u z) =
      joined ((word_eats w.JsonObject ts refl).holds a h) (joined ((open_eats a).holds b o) (joined (members_eat d) (and_eats (both (optional_passes nulls_eats n) (optional_passes unique_eats u)) ((close_eats e).holds rest z))))
  value_eats (g.no_array {ts = ts} {a = a} {b = b} {rest = rest} h o z) = joined ((word_eats w.JsonArray ts refl).holds a h) (joined ((open_eats a).holds b o) ((close_eats b).holds rest z))
  value_eats (g.array {ts = ts} {a = a} {b = b} {d = e} {rest = rest} h o d n z) =
      joined ((word_eats w.JsonArray ts refl).holds a h) (joined ((open_eats a).holds b o) (joined (values_eat d) (and_eats (optional_passes nulls_eats n) ((close_eats e).holds rest z))))

  pub values_eat : {s : Source} {ts rest : Tokens} {xs : Values PathText} → IsValues s ts xs rest → Eats ts rest
  values_eat (g.last_value d) = value_eats d
  values_eat (g.more_values {a = a} {b = b} d c q) = joined (value_eats d) (joined ((comma_eats a).holds b c) (values_eat q))

  pub member_eats : {s : Source} {ts rest : Tokens} {x y : Value PathText} → IsMember s ts x y rest → Eats ts rest
  member_eats (g.keyed {ts = ts} {a = a} {b = b} {c = c} h d v q) = joined ((word_eats w.Key ts refl).holds a h) (joined (value_eats d) (joined ((word_eats w.Value b refl).holds c v) (value_eats q)))
  member_eats (g.valued {a = a} {b = b} d v q) = joined (value_eats d) (joined ((word_eats w.Value a refl).holds b v) (value_eats q))
  member_eats (g.coloned {a = a} {b = b} d v q) = joined (value_eats d) (joined ((colon_eats a).holds b v) (value_eats q))

  pub members_eat : {s : Source} {ts rest : Tokens} {xs : Members PathText} → IsMembers s ts xs rest → Eats ts rest
  members_eat (g.last_member d) = member_eats d
  members_eat (g.more_members {a = a} {b = b} d c q) = joined (member_eats d) (joined ((comma_eats a).holds b c) (members_eat q))

-- ---- tables

mutual
  pub column_eats : {ts rest : Tokens} {x : ColumnOf PathText} → IsColumn ts x rest → Eats ts rest
  column_eats (g.ordinality {ts = ts} {a = a} {b = b} {rest = rest} {name = n} h f o) = joined ((name_eats ts).holds (n, a) h) (joined ((word_eats w.For a refl).holds b f) ((word_eats w.Ordinality b refl).holds rest o))
  column_eats (g.regular {ts = ts} {a = a} {b = b} {name = n} {ty = ty} h t p e r) =
      joined ((name_eats ts).holds (n, a) h) (eats ((type_eats a).holds (ty, b) t) (both (optional_passes path_eats p) (both (optional_passes (value_clause_eats w.Empty refl) e) (optional_passes (value_clause_eats w.Error refl) r))))
  column_eats (g.formatted {ts = ts} {a = a} {b = b} {name = n} h f x p q) =
      joined ((name_eats ts).holds (n, a) h) (eats ((formatted_eats a).holds b f) (both (optional_passes encoding_eats x) (both (optional_passes path_eats p) (query_clauses_pass q))))
  column_eats (g.existence {ts = ts} {a = a} {b = b} {name = n} h x p e) =
      joined ((name_eats ts).holds (n, a) h) (eats ((existence_eats a).holds b x) (both (optional_passes path_eats p) (optional_passes exists_clause_eats e)))
  column_eats (g.nested {ts = ts} {a = a} {b = b} {path = path} h p n d) =
      joined ((word_eats w.Nested ts refl).holds a h) (joined ((nested_path_eats a).holds (path, b) p) (and_eats (optional_passes path_name_eats n) (columns_eat d)))

  pub columns_eat : {ts rest : Tokens} {xs : Columns PathText} → IsColumns ts xs rest → Eats ts rest
  columns_eat (g.columns {ts = ts} {a = a} {b = b} {c = c} {rest = rest} h o d z) = joined ((word_eats w.Columns ts refl).holds a h) (joined ((open_eats a).holds b o) (joined (column_list_eats d) ((close_eats c).holds rest z)))

  pub column_list_eats : {ts rest : Tokens} {xs : Columns PathText} → IsColumnList ts xs rest → Eats ts rest
  column_list_eats (g.last_column d) = column_eats d
  column_list_eats (g.more_columns {a = a} {b = b} d c q) = joined (column_eats d) (joined ((comma_eats a).holds b c) (column_list_eats q))

mutual
  pub plan_expr_eats : {ts rest : Tokens} {p : NamedPlan} → IsPlanExpr ts p rest → Eats ts rest
  plan_expr_eats (g.lone {ts = ts} {rest = rest} {name = n} h) = (name_eats ts).holds (n, rest) h
  plan_expr_eats (g.outer {ts = ts} {a = a} {b = b} {name = n} h o d) = joined ((name_eats ts).holds (n, a) h) (joined ((word_eats w.Outer a refl).holds b o) (plan_prim_eats d))
  plan_expr_eats (g.inner {ts = ts} {a = a} {b = b} {name = n} h o d) = joined ((name_eats ts).holds (n, a) h) (joined ((word_eats w.Inner a refl).holds b o) (plan_prim_eats d))
  plan_expr_eats (g.union {a = a} {b = b} d h e q) = joined (plan_prim_eats d) (joined ((word_eats w.Union a refl).holds b h) (eats (plan_prim_eats e) (union_passes q)))
  plan_expr_eats (g.cross {a = a} {b = b} d h e q) = joined (plan_prim_eats d) (joined ((word_eats w.Cross a refl).holds b h) (eats (plan_prim_eats e) (cross_passes q)))

  pub union_passes : {x : NamedPlan} {ts rest : Tokens} {p : NamedPlan} → IsUnion x ts p rest → Passes ts rest
  union_passes (g.union_end {ts = ts}) = stays ts
  union_passes (g.union_more {ts = ts} {a = a} h d q) = both (passes (joined ((word_eats w.Union ts refl).holds a h) (plan_prim_eats d))) (union_passes q)

  pub cross_passes : {x : NamedPlan} {ts rest : Tokens} {p : NamedPlan} → IsCross x ts p rest → Passes ts rest
  cross_passes (g.cross_end {ts = ts}) = stays ts
  cross_passes (g.cross_more {ts = ts} {a = a} h d q) = both (passes (joined ((word_eats w.Cross ts refl).holds a h) (plan_prim_eats d))) (cross_passes q)

  pub plan_prim_eats : {ts rest : Tokens} {p : NamedPlan} → IsPlanPrim ts p rest → Eats ts rest
  plan_prim_eats (g.plan_name {ts = ts} {rest = rest} {name = n} h) = (name_eats ts).holds (n, rest) h
  plan_prim_eats (g.parens {ts = ts} {a = a} {b = b} {rest = rest} o d z) = joined ((open_eats ts).holds a o) (joined (plan_expr_eats d) ((close_eats b).holds rest z))

-- ---- items

pub plain_item_eats : (ts rest : Tokens) (x : Value PathText) → IsPlainItem ts x rest → Eats ts rest
plain_item_eats ts rest x (g.plain_item d o) = eats (value_eats d) (over_passes alias_eats o)

pub row_item_eats : {ts rest : Tokens} {x : Item PathText} → IsRowItem ts x rest → Eats ts rest
row_item_eats (g.single d) = value_eats d
row_item_eats (g.array_agg {ts = ts} {a = a} {b = b} {d = e} {rest = rest} h o d n z) =
    joined ((word_eats w.JsonArrayAgg ts refl).holds a h) (joined ((open_eats a).holds b o) (joined (value_eats d) (and_eats (optional_passes nulls_eats n) ((close_eats e).holds rest z))))
row_item_eats (g.object_agg {ts = ts} {a = a} {b = b} {e = e} {rest = rest} h o d n u z) =
    joined ((word_eats w.JsonObjectAgg ts refl).holds a h) (joined ((open_eats a).holds b o) (joined (member_eats d) (and_eats (both (optional_passes nulls_eats n) (optional_passes unique_eats u)) ((close_eats e).holds rest z))))

pub listed_item_eats : (ts rest : Tokens) (x : Item PathText) → IsListedItem ts x rest → Eats ts rest
listed_item_eats ts rest x (g.listed_item d o) = eats (row_item_eats d) (over_passes alias_eats o)
