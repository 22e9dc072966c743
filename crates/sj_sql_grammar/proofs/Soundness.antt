-- What is read is in the grammar.
use Rattle.std.proofs.Common.{◌≡◌, ℕ, zero, suc, Bool, true, false, cond, leb-true, List, [], ◌∷◌, length, Option, Some, None, refl, subst}
use Rattle.sj_value.specs.declared.clauses.JsonKind.TheVariants as json
use Rattle.sj_sql_token.specs.declared.keyword.Keyword.TheVariants as w
use Rattle.sj_sql_grammar.specs.declared.clauses.Encoding.{Encoding}
use Rattle.sj_sql_grammar.specs.declared.clauses.Passed.{Passed}
use Rattle.sj_sql_grammar.specs.Tree as t
use Rattle.sj_sql_grammar.specs.Tree.{PathText, Common, Value, Values, Members, Item, ColumnOf, Columns, NamedPlan, Table, Statement}
use Rattle.sj_sql_grammar.specs.Phrases.{Tokens, Phrase, if_some, word, open_at, comma_at, string_at, name_at, format_at, passed_at, unique_at, alias_at, table_alias_at, path_name_at}
use Rattle.sj_sql_grammar.specs.Grammar as g
use Rattle.sj_sql_grammar.specs.Grammar.{IsOptional, IsPassedOver, IsList, IsDocument, IsPassed, IsPassing, IsCommon, AreQueryClauses, IsKind, IsOwnUnique, IsIsJson, Source, document, row, IsValue, IsValues, IsMember, IsMembers, IsColumn, IsColumns, IsColumnList, IsPlanExpr, IsUnion, IsCross, IsPlanPrim, operators, max_operators, IsPlan, IsTable, IsPlainItem, IsRowItem, IsListedItem, IsSelect}
use Rattle.sj_sql_grammar.specs.Notes.{Notes}
use Rattle.sj_sql_grammar.specs.Reading.{optional, passed_over, list_from, document_at, passing_at, query_clauses_at, begins_value, kind_at, is_json_at, plan_parens_at, plan_prim_at, union_from, cross_from, joined_at, named_plan_at, plan_over, plan_expr_at, plan_at, has_from, Noting, common_at, exists_from, value_from, query_from, values_from, member_value_at, keyed_at, valued_at, member_at, members_from, members_to_end, object_from, values_to_end, array_from, asking_at, value_over, value_at, regular_at, formatted_from, existence_from, named_column_at, nested_from, column_at, columns_from, columns_over, columns_at, row_path_at, table_at, plain_item_at, array_agg_from, object_agg_from, row_item_at, listed_item_at, items_from, ended, all_at, listed_at, plain_at, select_at}
use Rattle.sj_sql_grammar.proofs.ReadTokens.{If, nothing, here, then, given, either, chosen, weaken}

-- ---- what may stand, and what is repeated

optional_reads : {A : Type 0} (phrase : Phrase A) (default : A) (ts : Tokens) → If (λ x. IsOptional phrase default ts x.0 x.1) (optional phrase default ts)
optional_reads phrase default ts = either _ _ _ (λ x h. here (g.there h)) (λ _. here g.absent)

over_reads : {A : Type 0} (phrase : Phrase A) (ts : Tokens) → IsPassedOver phrase ts (passed_over phrase ts)
over_reads {A} phrase ts = go (phrase ts) refl
  where
    go : (o : Option (A × Tokens)) → phrase ts ≡ o → IsPassedOver phrase ts (if_some o (λ x. x.1) ts)
    go None h = g.missing
    go (Some x) h = g.passed h

variables_read : (m : ℕ) (ts : Tokens) → If (λ x. IsList IsPassed ts x.0 x.1) (list_from passed_at m ts)
unfolding list_from
variables_read zero ts = nothing
variables_read (suc m) ts = given _ _ (λ x h. either _ _ _ (λ a c. then _ _ (variables_read m a) (λ xs d. here (g.more h c d))) (λ _. here (g.last h)))

-- ---- what holds no path

document_reads : (ts : Tokens) → If (λ x. IsDocument ts x.0 x.1) (document_at ts)
unfolding document_at
document_reads ts = given _ _ (λ a h. weaken (λ x o. g.doc h o) (optional_reads format_at _ a))

passing_reads : (ts : Tokens) → If (λ x. IsPassing ts x.0 x.1) (passing_at ts)
unfolding passing_at
passing_reads ts = either _ _ _ (λ a h. weaken (λ x d. g.variables h d) (variables_read (length a) a)) (λ _. here g.nothing)

query_clauses_read : (ts : Tokens) → If (λ x. AreQueryClauses ts x.0 x.1) (query_clauses_at ts)
unfolding query_clauses_at
query_clauses_read ts = then _ _ (optional_reads _ _ ts) (λ wr q. then _ _ (optional_reads _ _ wr.1) (λ qu i. then _ _ (optional_reads _ _ qu.1) (λ e r. then _ _ (optional_reads _ _ e.1) (λ u s. here (g.query_clauses q i r s)))))

kind_reads : (ts : Tokens) → If (λ x. IsKind ts x.0 x.1) (kind_at ts)
unfolding kind_at
kind_reads ts = either _ _ _ (λ a h. here (valued a h (begins_value a))) (λ _. either _ _ _ (λ x h. here (g.other_kind h)) (λ _. here g.no_kind))
  where
    valued : (a : Tokens) → word w.Value ts ≡ Some a → (b : Bool) → IsKind ts json.Value (cond b ts a)
    valued a h true = g.no_kind
    valued a h false = g.value_kind h

unique_reads : (ts : Tokens) → If (λ x. IsOwnUnique ts x.0 x.1) (optional unique_at false ts)
unique_reads ts = either _ _ _ (λ x h. here (g.own h)) (λ h. here (g.none_follows h))

is_json_reads : (ts : Tokens) → If (λ x. IsIsJson ts x.0 x.1) (is_json_at ts)
unfolding is_json_at
is_json_reads ts = given _ _ (λ a h. given _ _ (λ b i. then _ _ (optional_reads _ _ b) (λ c o. given _ _ (λ d j. then _ _ (kind_reads d) (λ e kind. then _ _ (unique_reads e.1) (λ u q. here (g.is_json_call h i o j kind q)))))))

-- ---- plans

module _ (inner : Phrase NamedPlan) (reads : (ts : Tokens) → If (λ x. IsPlanExpr ts x.0 x.1) (inner ts)) where
  parens_read : (ts a : Tokens) → open_at ts ≡ Some a → If (λ x. IsPlanPrim ts x.0 x.1) (plan_parens_at inner a)
  unfolding plan_parens_at
  parens_read ts a o = then _ _ (reads a) (λ p d. given _ _ (λ rest z. here (g.parens o d z)))

  prim_reads : (ts : Tokens) → If (λ x. IsPlanPrim ts x.0 x.1) (plan_prim_at inner ts)
  unfolding plan_prim_at
  prim_reads ts = either _ _ _ (λ a o. parens_read ts a o) (λ _. given _ _ (λ name h. here (g.plan_name h)))

  union_reads : (m : ℕ) (x : NamedPlan) (ts : Tokens) → If (λ y. IsUnion x ts y.0 y.1) (union_from inner m x ts)
  unfolding union_from
  union_reads zero x ts = here g.union_end
  union_reads (suc m) x ts = either _ _ _ (λ a h. then _ _ (prim_reads a) (λ y d. weaken (λ z q. g.union_more h d q) (union_reads m (t.Union x y.0) y.1))) (λ _. here g.union_end)

  cross_reads : (m : ℕ) (x : NamedPlan) (ts : Tokens) → If (λ y. IsCross x ts y.0 y.1) (cross_from inner m x ts)
  unfolding cross_from
  cross_reads zero x ts = here g.cross_end
  cross_reads (suc m) x ts = either _ _ _ (λ a h. then _ _ (prim_reads a) (λ y d. weaken (λ z q. g.cross_more h d q) (cross_reads m (t.Cross x y.0) y.1))) (λ _. here g.cross_end)

  joined_reads : (ts a : Tokens) (x : NamedPlan) → IsPlanPrim ts x a → If (λ y. IsPlanExpr ts y.0 y.1) (joined_at inner x a)
  unfolding joined_at
  joined_reads ts a x p = either _ _ _
      (λ b h. then _ _ (prim_reads b) (λ y d. weaken (λ z q. g.union p h d q) (union_reads (length y.1) (t.Union x y.0) y.1)))
      (λ _. given _ _ (λ b h. then _ _ (prim_reads b) (λ y d. weaken (λ z q. g.cross p h d q) (cross_reads (length y.1) (t.Cross x y.0) y.1))))

  named_reads : (ts a : Tokens) (name : List ℕ) → name_at ts ≡ Some (name, a) → If (λ y. IsPlanExpr ts y.0 y.1) (named_plan_at inner name a)
  unfolding named_plan_at
  named_reads ts a name h = either _ _ _ (λ b o. then _ _ (prim_reads b) (λ x d. here (g.outer h o d)))
      (λ _. either _ _ _ (λ b o. then _ _ (prim_reads b) (λ x d. here (g.inner h o d)))
      (λ _. either _ _ _ (λ x q. here ((joined_reads ts a (t.PathOf name) (g.plan_name h)).holds x q)) (λ _. here (g.lone h))))

  plan_reads : (ts : Tokens) → If (λ x. IsPlanExpr ts x.0 x.1) (plan_over inner ts)
  unfolding plan_over
  plan_reads ts = either _ _ _ (λ a o. then _ _ (parens_read ts a o) (λ x p. joined_reads ts x.1 x.0 p)) (λ _. given _ _ (λ name h. named_reads ts name.1 name.0 h))

plan_expr_reads : (m : ℕ) (ts : Tokens) → If (λ x. IsPlanExpr ts x.0 x.1) (plan_expr_at m ts)
unfolding plan_expr_at
plan_expr_reads zero ts = nothing
plan_expr_reads (suc m) ts = plan_reads (plan_expr_at m) (plan_expr_reads m) ts

plan_clause_reads : (ts : Tokens) → If (λ x. IsPlan ts x.0 x.1) (plan_at ts)
unfolding plan_at
plan_clause_reads ts = either _ _ _
    (λ a h. either _ _ _ (λ b q. given _ _ (λ c o. given _ _ (λ p d. given _ _ (λ rest z. here (g.default_plan h q o d z)))))
    (λ _. given _ _ (λ b o. then _ _ (plan_expr_reads (suc (length b)) b) (λ p d. given _ _ (λ rest z.
    chosen _ _ _ (λ few. here (g.named_plan h o d z (leb-true (operators p.0) max_operators few))) (λ _. nothing))))))
    (λ _. here g.no_plan)

-- the document and the row path of a table
record RowPath (ts rest : Tokens) : Type 0 where
  encoding : Encoding
  path : List ℕ
  name : Option (List ℕ)
  variables : List Passed
  a : Tokens
  b : Tokens
  c : Tokens
  d : Tokens
  document : IsDocument ts encoding a
  comma : comma_at a ≡ Some b
  string : string_at b ≡ Some (path, c)
  named : IsOptional path_name_at None c name d
  passing : IsPassing d variables rest

-- ---- what holds paths

module _ {P F : Type 0} (n : Notes P F) where
  abbrev ReadsValue : Source → Tokens → Value P × F × Tokens → Type 0
  ReadsValue s ts x = (v : Value PathText) × IsValue s ts v x.2

  common_reads : (f : F) (ts : Tokens) → If (λ x. (c : Common PathText) × IsCommon ts c x.2) (common_at n f ts)
  unfolding common_at
  common_reads f ts = then _ _ (document_reads ts) (λ x d. given _ _ (λ b h. given _ _ (λ s q. then _ _ (passing_reads s.1) (λ v p. here (_, g.common d h q p)))))

  exists_reads : (f : F) (ts a : Tokens) → word w.JsonExists ts ≡ Some a → If (ReadsValue document ts) (exists_from n f a)
  unfolding exists_from
  exists_reads f ts a h = given _ _ (λ b o. then _ _ (common_reads f b) (λ x c. then _ _ (optional_reads _ _ x.2) (λ e q. given _ _ (λ rest z. here (_, g.exists (g.exists_call h o c.1 q z))))))

  value_reads : (f : F) (ts a : Tokens) → word w.JsonValue ts ≡ Some a → If (ReadsValue document ts) (value_from n f a)
  unfolding value_from
  value_reads f ts a h = given _ _ (λ b o. then _ _ (common_reads f b) (λ x c. then _ _ (optional_reads _ _ x.2) (λ ty q. then _ _ (optional_reads _ _ ty.1) (λ e r. then _ _ (optional_reads _ _ e.1) (λ u s.
      given _ _ (λ rest z. here (_, g.value (g.value_call h o c.1 q r s z))))))))

  query_reads : (f : F) (ts a : Tokens) → word w.JsonQuery ts ≡ Some a → If (ReadsValue document ts) (query_from n f a)
  unfolding query_from
  query_reads f ts a h = given _ _ (λ b o. then _ _ (common_reads f b) (λ x c. then _ _ (query_clauses_read x.2) (λ u q. given _ _ (λ rest z. here (_, g.query (g.query_call h o c.1 q z))))))

  module _ (s : Source) (inner : Noting n (Value P)) (reads : (f : F) (ts : Tokens) → If (ReadsValue s ts) (inner f ts)) where
    values_read : (m : ℕ) (f : F) (ts : Tokens) → If (λ x. (v : Values PathText) × IsValues s ts v x.2) (values_from n inner m f ts)
    unfolding values_from
    values_read zero f ts = nothing
    values_read (suc m) f ts = then _ _ (reads f ts) (λ x d. either _ _ _ (λ a c. then _ _ (values_read m x.1 a) (λ xs q. here (_, g.more_values d.1 c q.1))) (λ _. here (_, g.last_value d.1)))

    abbrev ReadsMember : Tokens → (Value P × Value P) × F × Tokens → Type 0
    ReadsMember ts x = (u v : Value PathText) × IsMember s ts u v x.2

    member_reads : (f : F) (ts : Tokens) → If (ReadsMember ts) (member_at n inner f ts)
    unfolding member_at keyed_at valued_at member_value_at
    member_reads f ts = either _ _ _
        (λ a h. then _ _ (reads f a) (λ x d. given _ _ (λ b v. then _ _ (reads x.1 b) (λ y q. here (_, _, g.keyed h d.1 v q.1)))))
        (λ _. then _ _ (reads f ts) (λ x d. either _ _ _ (λ b v. then _ _ (reads x.1 b) (λ y q. here (_, _, g.valued d.1 v q.1)))
        (λ _. given _ _ (λ b v. then _ _ (reads x.1 b) (λ y q. here (_, _, g.coloned d.1 v q.1))))))

    members_read : (m : ℕ) (f : F) (ts : Tokens) → If (λ x. (v : Members PathText) × IsMembers s ts v x.2) (members_from n inner m f ts)
    unfolding members_from
    members_read zero f ts = nothing
    members_read (suc m) f ts = then _ _ (member_reads f ts) (λ x d. either _ _ _ (λ a c. then _ _ (members_read m x.1 a) (λ xs q. here (_, g.more_members d.2 c q.1))) (λ _. here (_, g.last_member d.2)))

    object_reads : (f : F) (ts a : Tokens) → word w.JsonObject ts ≡ Some a → If (ReadsValue s ts) (object_from n inner f a)
    unfolding object_from members_to_end
    object_reads f ts a h = given _ _ (λ b o. either _ _ _ (λ rest z. here (_, g.no_object h o z))
        (λ _. then _ _ (members_read (length b) f b) (λ xs d. then _ _ (optional_reads _ _ xs.2) (λ nl q. then _ _ (optional_reads _ _ nl.1) (λ u r. given _ _ (λ rest z. here (_, g.object h o d.1 q r z)))))))

    array_reads : (f : F) (ts a : Tokens) → word w.JsonArray ts ≡ Some a → If (ReadsValue s ts) (array_from n inner f a)
    unfolding array_from values_to_end
    array_reads f ts a h = given _ _ (λ b o. either _ _ _ (λ rest z. here (_, g.no_array h o z))
        (λ _. then _ _ (values_read (length b) f b) (λ xs d. then _ _ (optional_reads _ _ xs.2) (λ nl q. given _ _ (λ rest z. here (_, g.array h o d.1 q z))))))

  asking_reads : (s : Source) (f : F) (ts : Tokens) → If (ReadsValue s ts) (asking_at n s f ts)
  unfolding asking_at
  asking_reads document f ts = either _ _ _ (λ a h. exists_reads f ts a h) (λ _. either _ _ _ (λ a h. value_reads f ts a h)
      (λ _. either _ _ _ (λ a h. query_reads f ts a h) (λ _. then _ _ (is_json_reads ts) (λ c d. here (_, g.is_json d)))))
  asking_reads row f ts = given _ _ (λ name h. here (_, g.column h))

  value_at_reads : (s : Source) (m : ℕ) (f : F) (ts : Tokens) → If (ReadsValue s ts) (value_at n s m f ts)
  unfolding value_at value_over
  value_at_reads s zero f ts = nothing
  value_at_reads s (suc m) f ts = either _ _ _ (λ x h. here (_, g.literal h)) (λ _. either _ _ _ (λ a h. object_reads s (value_at n s m) (value_at_reads s m) f ts a h)
      (λ _. either _ _ _ (λ a h. array_reads s (value_at n s m) (value_at_reads s m) f ts a h) (λ _. asking_reads s f ts)))

  -- ---- tables

  abbrev ReadsColumn : Tokens → ColumnOf P × F × Tokens → Type 0
  ReadsColumn ts x = (c : ColumnOf PathText) × IsColumn ts c x.2

  named_column_reads : (name : List ℕ) (f : F) (ts a : Tokens) → name_at ts ≡ Some (name, a) → If (ReadsColumn ts) (named_column_at n name f a)
  unfolding named_column_at regular_at formatted_from existence_from
  named_column_reads name f ts a h = either _ _ _ (λ b i. given _ _ (λ rest o. here (_, g.ordinality h i o)))
      (λ _. either _ _ _
      (λ b i. then _ _ (optional_reads _ _ b) (λ e en. then _ _ (optional_reads _ _ e.1) (λ p pa. then _ _ (query_clauses_read p.1) (λ u q. here (_, g.formatted h i en pa q)))))
      (λ _. either _ _ _ (λ b i. then _ _ (optional_reads _ _ b) (λ p pa. then _ _ (optional_reads _ _ p.1) (λ y er. here (_, g.existence h i pa er))))
      (λ _. given _ _ (λ ty i. then _ _ (optional_reads _ _ ty.1) (λ p pa. then _ _ (optional_reads _ _ p.1) (λ x em. then _ _ (optional_reads _ _ x.1) (λ y er. here (_, g.regular h i pa em er))))))))

  module _ (inner : Noting n (Columns P)) (reads : (f : F) (ts : Tokens) → If (λ x. (c : Columns PathText) × IsColumns ts c x.2) (inner f ts)) where
    column_reads : (f : F) (ts : Tokens) → If (ReadsColumn ts) (column_at n inner f ts)
    unfolding column_at nested_from
    column_reads f ts = either _ _ _ (λ a h. given _ _ (λ path p. then _ _ (optional_reads _ _ path.1) (λ name o. then _ _ (reads (n.see_path path.0 f) name.1) (λ xs d. here (_, g.nested h p o d.1)))))
        (λ _. given _ _ (λ name h. named_column_reads name.0 f ts name.1 h))

    column_list_reads : (m : ℕ) (f : F) (ts : Tokens) → If (λ x. (c : Columns PathText) × IsColumnList ts c x.2) (columns_from n inner m f ts)
    unfolding columns_from
    column_list_reads zero f ts = nothing
    column_list_reads (suc m) f ts = then _ _ (column_reads f ts) (λ x d. either _ _ _ (λ a c. then _ _ (column_list_reads m x.1 a) (λ xs q. here (_, g.more_columns d.1 c q.1))) (λ _. here (_, g.last_column d.1)))

  columns_read : (m : ℕ) (f : F) (ts : Tokens) → If (λ x. (c : Columns PathText) × IsColumns ts c x.2) (columns_at n m f ts)
  unfolding columns_at columns_over
  columns_read zero f ts = nothing
  columns_read (suc m) f ts = given _ _ (λ a h. given _ _ (λ b o. then _ _ (column_list_reads (columns_at n m) (columns_read m) (length b) f b) (λ xs d. given _ _ (λ rest z. here (_, g.columns h o d.1 z)))))

  row_path_reads : (f : F) (ts : Tokens) → If (λ x. RowPath ts x.2) (row_path_at n f ts)
  unfolding row_path_at
  row_path_reads f ts = then _ _ (document_reads ts) (λ x d. given _ _ (λ b c. given _ _ (λ s q. then _ _ (optional_reads _ _ s.1) (λ name o. then _ _ (passing_reads name.1) (λ v p.
      here (record { encoding = x.0; path = s.0; name = name.0; variables = v.0; a = x.1; b = b; c = s.1; d = name.1; document = d; comma = c; string = q; named = o; passing = p }))))))

  table_reads : (f : F) (ts : Tokens) → If (λ x. (c : Table PathText) × IsTable ts c x.2) (table_at n f ts)
  unfolding table_at
  table_reads f ts = given _ _ (λ a h. given _ _ (λ b o. then _ _ (row_path_reads f b) (λ x r. then _ _ (columns_read (suc (length x.2)) x.1 x.2) (λ xs d. then _ _ (plan_clause_reads xs.2) (λ p q.
      then _ _ (optional_reads _ _ p.1) (λ u s. given _ _ (λ m z. here (_, g.json_table h o r.document r.comma r.string r.named r.passing d.1 q s z (over_reads table_alias_at m)))))))))

  -- ---- items and statements

  plain_item_reads : (f : F) (ts : Tokens) → If (λ x. (v : Value PathText) × IsPlainItem ts v x.2) (plain_item_at n f ts)
  unfolding plain_item_at
  plain_item_reads f ts = then _ _ (value_at_reads document (suc (length ts)) f ts) (λ x d. here (_, g.plain_item d.1 (over_reads alias_at x.2)))

  row_item_reads : (f : F) (ts : Tokens) → If (λ x. (v : Item PathText) × IsRowItem ts v x.2) (row_item_at n f ts)
  unfolding row_item_at array_agg_from object_agg_from
  row_item_reads f ts = either _ _ _
      (λ a h. given _ _ (λ b o. then _ _ (value_at_reads row (suc (length b)) f b) (λ x d. then _ _ (optional_reads _ _ x.2) (λ nl q. given _ _ (λ rest z. here (_, g.array_agg h o d.1 q z))))))
      (λ _. either _ _ _
      (λ a h. given _ _ (λ b o. then _ _ (member_reads row (value_at n row (suc (length b))) (value_at_reads row (suc (length b))) f b) (λ x d. then _ _ (optional_reads _ _ x.2) (λ nl q. then _ _ (optional_reads _ _ nl.1) (λ u r.
      given _ _ (λ rest z. here (_, g.object_agg h o d.2 q r z)))))))
      (λ _. then _ _ (value_at_reads row (suc (length ts)) f ts) (λ x d. here (_, g.single d.1))))

  listed_item_reads : (f : F) (ts : Tokens) → If (λ x. (v : Item PathText) × IsListedItem ts v x.2) (listed_item_at n f ts)
  unfolding listed_item_at
  listed_item_reads f ts = then _ _ (row_item_reads f ts) (λ x d. here (_, g.listed_item d.1 (over_reads alias_at x.2)))

  items_read : {A R : Type 0} (IsOne : Tokens → R → Tokens → Type 0) (one : Noting n A) → ((f : F) (ts : Tokens) → If (λ x. (v : R) × IsOne ts v x.2) (one f ts)) → (m : ℕ) (f : F) (ts : Tokens)
      → If (λ x. (v : List R) × IsList IsOne ts v x.2) (items_from n one m f ts)
  unfolding items_from
  items_read IsOne one reads zero f ts = nothing
  items_read IsOne one reads (suc m) f ts =
      then _ _ (reads f ts) (λ x d. either _ _ _ (λ a c. then _ _ (items_read IsOne one reads m x.1 a) (λ xs q. here (_, g.more d.1 c q.1))) (λ _. here (_, g.last d.1)))

  -- what ends with the tokens
  ends_read : (Q : Type 0) (y : Statement P) (f : F) (rest : Tokens) → (rest ≡ [] → Q) → If (λ x. Q) (ended n y f rest)
  ends_read Q y f [] q = here (q refl)
  ends_read Q y f (k ∷ ks) q = nothing

  pub select_reads : (f : F) (ts : Tokens) → If (λ x. (v : Statement PathText) × IsSelect ts v) (select_at n f ts)
  unfolding select_at all_at listed_at plain_at
  select_reads f ts = given _ _ (λ a h. either _ _ _
      (λ b s. given _ _ (λ c fr. then _ _ (table_reads f c) (λ t d. ends_read _ _ _ t.2 (λ e. (_, g.all h s fr (subst (λ r. IsTable c d.0 r) e d.1))))))
      (λ _. chosen (has_from a) (listed_at n f a) (plain_at n f a)
      (λ _. then _ _ (items_read IsListedItem (listed_item_at n) listed_item_reads (length a) f a) (λ xs d. given _ _ (λ c fr. then _ _ (table_reads xs.1 c) (λ t q.
      ends_read _ _ _ t.2 (λ e. (_, g.listed h d.1 fr (subst (λ r. IsTable c q.0 r) e q.1)))))))
      (λ _. then _ _ (items_read IsPlainItem (plain_item_at n) plain_item_reads (length a) f a) (λ xs d. ends_read _ _ _ xs.2 (λ e. (_, g.plain h (subst (λ r. IsList IsPlainItem a d.0 r) e d.1)))))))
