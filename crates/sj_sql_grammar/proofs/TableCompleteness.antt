-- The same of tables and of whole statements.
use Rattle.std.proofs.Common.{◌≡◌, ℕ, zero, suc, ◌≤◌, Bool, true, false, cond, le-leb, List, [], ◌∷◌, length, Option, Some, None, refl, sym, ap, ◌∙◌, arith}
use Rattle.sj_base.specs.Options.{◌>>=◌}
use Rattle.sj_path_tree.specs.declared.parts.Literal.{Literal}
use Rattle.sj_value.specs.declared.clauses.ExistsAction.TheVariants as on_exists
use Rattle.sj_sql_token.specs.declared.token.Token.TheVariants as k
use Rattle.sj_sql_token.specs.declared.keyword.Keyword.{Keyword}
use Rattle.sj_sql_token.specs.declared.keyword.Keyword.TheVariants as w
use Rattle.sj_sql_grammar.specs.declared.clauses.Passed.{Passed}
use Rattle.sj_sql_grammar.specs.declared.clauses.ValueDo.TheVariants as on_value
use Rattle.sj_sql_grammar.specs.Tree.{PathText, Written, Value, Item, ColumnOf, Columns, NamedPlan, PathOf, PlanTree, Table, Statement}
use Rattle.sj_sql_grammar.specs.Phrases.{Tokens, Phrase, word, close_at, comma_at, star_at, constant_of, literal_at, encoding_at, exists_clause_at, value_clause_at, meant, alias_at, table_alias_at, path_name_at, path_at, formatted_at, existence_at, table_action_of, table_clause_at}
use Rattle.sj_sql_grammar.specs.Grammar as g
use Rattle.sj_sql_grammar.specs.Grammar.{IsOptional, IsPassedOver, IsList, IsDocument, IsPassing, Source, document, row, IsValue, IsColumnPath, IsColumn, IsColumns, IsColumnList, IsPlanExpr, IsUnion, IsCross, IsPlanPrim, operators, max_operators, IsPlan, IsTable, IsPlainItem, IsRowItem, IsListedItem, IsSelect}
use Rattle.sj_sql_grammar.specs.Notes.{Notes, value_with, item_with, column_with, columns_with, table_with, plain_with, items_with, statement_with, note_encoding, note_value, note_item, note_column, note_columns, note_table, note_plain, note_items, note_statement}
use Rattle.sj_sql_grammar.specs.Reading.{plan_parens_at, plan_prim_at, union_from, cross_from, joined_at, named_plan_at, plan_over, plan_expr_at, plan_at, has_from, value_at, regular_at, formatted_from, existence_from, named_column_at, nested_from, column_at, columns_from, columns_over, columns_at, row_path_at, table_at, plain_item_at, array_agg_from, object_agg_from, row_item_at, listed_item_at, items_from, all_at, listed_at, plain_at, select_at}
use Rattle.sj_sql_grammar.proofs.ReadTokens.{bind_is, bind_none, some_on, none_on, cond_on, cond_off, said}
use Rattle.sj_sql_token.specs.Keywords.{is_reserved}
use Rattle.sj_sql_token.specs.Same.{same}
use Rattle.sj_sql_grammar.proofs.SpellingsTakeTokens.{path_name_eats, word_eats, open_eats, close_eats, comma_eats, name_eats, nested_path_eats}
use Rattle.sj_sql_grammar.proofs.PartsTakeTokens.{optional_passes, list_eats, column_eats, plan_expr_eats, plan_prim_eats, plain_item_eats, listed_item_eats}
use Rattle.sj_sql_grammar.proofs.FirstTokens.{bound, through, close_leads, open_leads, comma_leads, path_leads, alias_leads, exists_leads, table_clause_leads, value_clause_leads, query_clauses_lead, value_error_alone, name_not_open, name_not_word, type_not_for, type_not_formatted, type_not_existence, other_word, word_not_literal, value_heads, value_not_star, EndsDocument, ends_comma, ends_here, ends_as}
use Rattle.sj_sql_grammar.proofs.Completeness.{optional_full, over_full, document_full, NoPassing, passing_full, comma_no_format, NoQueryClause, close_no_query, comma_no_query, query_clauses_full, close_no_unique, close_no_nulls, object_nulls, value_full, member_full}

-- ---- plans

close_not_word : (v : Keyword) (ts rest : Tokens) → close_at ts ≡ Some rest → word v ts ≡ None
close_not_word v ts rest h = close_leads (λ x. word v x ≡ None) ts rest h refl

not_joined : (inner : Phrase NamedPlan) (x : NamedPlan) (ts rest : Tokens) → close_at ts ≡ Some rest → joined_at inner x ts ≡ None
unfolding joined_at
not_joined inner x ts rest h = none_on _ _ _ (close_not_word w.Union ts rest h) (bind_none _ _ (close_not_word w.Cross ts rest h))

mutual
  unfolding plan_expr_at plan_over plan_parens_at plan_prim_at union_from cross_from joined_at named_plan_at

  pub expr_full : {ts rest : Tokens} {p : NamedPlan} → IsPlanExpr ts p rest → (r : Tokens) → close_at rest ≡ Some r → (m : ℕ) → length ts ≤ m → plan_over (plan_expr_at m) ts ≡ Some (p, rest)
  expr_full (g.lone {ts = ts} {rest = rest} {name = x} h) r z m le =
      none_on _ _ _ (name_not_open ts (x, rest) h) (bind_is _ _ h (none_on _ _ _ (close_not_word w.Outer rest r z) (none_on _ _ _ (close_not_word w.Inner rest r z)
      (none_on _ _ _ (not_joined (plan_expr_at m) (PathOf x) rest r z) refl))))
  expr_full (g.outer {ts = ts} {a = a} {b = b} {name = x} h o d) r z m le =
      none_on _ _ _ (name_not_open ts (x, a) h) (bind_is _ _ h (some_on _ _ _ o (bind_is _ _ (prim_full d m (omega (arith, le, ((name_eats ts).holds (x, a) h).shorter, ((word_eats w.Outer a refl).holds b o).shorter))) refl)))
  expr_full (g.inner {ts = ts} {a = a} {b = b} {name = x} h o d) r z m le =
      none_on _ _ _ (name_not_open ts (x, a) h) (bind_is _ _ h (none_on _ _ _ (other_word w.Inner w.Outer refl a b o) (some_on _ _ _ o
      (bind_is _ _ (prim_full d m (omega (arith, le, ((name_eats ts).holds (x, a) h).shorter, ((word_eats w.Inner a refl).holds b o).shorter))) refl))))
  expr_full (g.union {a = a} {b = b} {c = c} (g.plan_name {ts = ts} {name = x} i) h e q) r z m le =
      none_on _ _ _ (name_not_open ts (x, a) i) (bind_is _ _ i (none_on _ _ _ (other_word w.Union w.Outer refl a b h) (none_on _ _ _ (other_word w.Union w.Inner refl a b h)
      (some_on _ _ _ (some_on _ _ _ h (bind_is _ _ (prim_full e m (omega (arith, le, ((name_eats ts).holds (x, a) i).shorter, ((word_eats w.Union a refl).holds b h).shorter))) (union_full q r z m (omega (arith, le, ((name_eats ts).holds (x, a) i).shorter, ((word_eats w.Union a refl).holds b h).shorter, (plan_prim_eats e).shorter)) (length c) (omega arith)))) refl))))
  expr_full (g.union {a = a} {b = b} {c = c} (g.parens {ts = ts} {a = l} {b = j} o d y) h e q) r z zero le = absurd (omega (arith, le, ((open_eats ts).holds l o).shorter))
  expr_full (g.union {a = a} {b = b} {c = c} {x = x} (g.parens {ts = ts} {a = l} {b = j} o d y) h e q) r z (suc m) le =
      some_on _ _ _ o (bind_is _ _ (bind_is _ _ (expr_full d a y m (omega (arith, le, ((open_eats ts).holds l o).shorter))) (bind_is _ _ y refl))
      (some_on _ _ _ h (bind_is _ _ (prim_full e (suc m) (omega (arith, le, ((open_eats ts).holds l o).shorter, (plan_expr_eats d).shorter, ((close_eats j).holds a y).shorter, ((word_eats w.Union a refl).holds b h).shorter))) (union_full q r z (suc m) (omega (arith, le, ((open_eats ts).holds l o).shorter, (plan_expr_eats d).shorter, ((close_eats j).holds a y).shorter, ((word_eats w.Union a refl).holds b h).shorter, (plan_prim_eats e).shorter)) (length c) (omega arith)))))
  expr_full (g.cross {a = a} {b = b} {c = c} (g.plan_name {ts = ts} {name = x} i) h e q) r z m le =
      none_on _ _ _ (name_not_open ts (x, a) i) (bind_is _ _ i (none_on _ _ _ (other_word w.Cross w.Outer refl a b h) (none_on _ _ _ (other_word w.Cross w.Inner refl a b h)
      (some_on _ _ _ (none_on _ _ _ (other_word w.Cross w.Union refl a b h) (bind_is _ _ h (bind_is _ _ (prim_full e m (omega (arith, le, ((name_eats ts).holds (x, a) i).shorter, ((word_eats w.Cross a refl).holds b h).shorter))) (cross_full q r z m (omega (arith, le, ((name_eats ts).holds (x, a) i).shorter, ((word_eats w.Cross a refl).holds b h).shorter, (plan_prim_eats e).shorter)) (length c) (omega arith))))) refl))))
  expr_full (g.cross {a = a} {b = b} {c = c} (g.parens {ts = ts} {a = l} {b = j} o d y) h e q) r z zero le = absurd (omega (arith, le, ((open_eats ts).holds l o).shorter))
  expr_full (g.cross {a = a} {b = b} {c = c} {x = x} (g.parens {ts = ts} {a = l} {b = j} o d y) h e q) r z (suc m) le =
      some_on _ _ _ o (bind_is _ _ (bind_is _ _ (expr_full d a y m (omega (arith, le, ((open_eats ts).holds l o).shorter))) (bind_is _ _ y refl))
      (none_on _ _ _ (other_word w.Cross w.Union refl a b h) (bind_is _ _ h (bind_is _ _ (prim_full e (suc m) (omega (arith, le, ((open_eats ts).holds l o).shorter, (plan_expr_eats d).shorter, ((close_eats j).holds a y).shorter, ((word_eats w.Cross a refl).holds b h).shorter))) (cross_full q r z (suc m) (omega (arith, le, ((open_eats ts).holds l o).shorter, (plan_expr_eats d).shorter, ((close_eats j).holds a y).shorter, ((word_eats w.Cross a refl).holds b h).shorter, (plan_prim_eats e).shorter)) (length c) (omega arith))))))

  union_full : {x : NamedPlan} {ts rest : Tokens} {p : NamedPlan} → IsUnion x ts p rest → (r : Tokens) → close_at rest ≡ Some r → (m : ℕ) → length ts ≤ m → (turns : ℕ) → length ts ≤ turns
      → union_from (plan_expr_at m) turns x ts ≡ Some (p, rest)
  union_full g.union_end r z m le zero lt = refl
  union_full (g.union_end {ts = ts}) r z m le (suc turns) lt = none_on _ _ _ (close_not_word w.Union ts r z) refl
  union_full (g.union_more {ts = ts} {a = a} h d q) r z m le zero lt = absurd (omega (arith, lt, ((word_eats w.Union ts refl).holds a h).shorter))
  union_full (g.union_more {ts = ts} {a = a} h d q) r z m le (suc turns) lt =
      some_on _ _ _ h (bind_is _ _ (prim_full d m (omega (arith, le, ((word_eats w.Union ts refl).holds a h).shorter)))
      (union_full q r z m (omega (arith, le, ((word_eats w.Union ts refl).holds a h).shorter, (plan_prim_eats d).shorter)) turns (omega (arith, lt, ((word_eats w.Union ts refl).holds a h).shorter, (plan_prim_eats d).shorter))))

  cross_full : {x : NamedPlan} {ts rest : Tokens} {p : NamedPlan} → IsCross x ts p rest → (r : Tokens) → close_at rest ≡ Some r → (m : ℕ) → length ts ≤ m → (turns : ℕ) → length ts ≤ turns
      → cross_from (plan_expr_at m) turns x ts ≡ Some (p, rest)
  cross_full g.cross_end r z m le zero lt = refl
  cross_full (g.cross_end {ts = ts}) r z m le (suc turns) lt = none_on _ _ _ (close_not_word w.Cross ts r z) refl
  cross_full (g.cross_more {ts = ts} {a = a} h d q) r z m le zero lt = absurd (omega (arith, lt, ((word_eats w.Cross ts refl).holds a h).shorter))
  cross_full (g.cross_more {ts = ts} {a = a} h d q) r z m le (suc turns) lt =
      some_on _ _ _ h (bind_is _ _ (prim_full d m (omega (arith, le, ((word_eats w.Cross ts refl).holds a h).shorter)))
      (cross_full q r z m (omega (arith, le, ((word_eats w.Cross ts refl).holds a h).shorter, (plan_prim_eats d).shorter)) turns (omega (arith, lt, ((word_eats w.Cross ts refl).holds a h).shorter, (plan_prim_eats d).shorter))))

  prim_full : {ts rest : Tokens} {x : NamedPlan} → IsPlanPrim ts x rest → (m : ℕ) → length ts ≤ m → plan_prim_at (plan_expr_at m) ts ≡ Some (x, rest)
  prim_full (g.plan_name {ts = ts} {rest = rest} {name = x} h) m le = none_on _ _ _ (name_not_open ts (x, rest) h) (bind_is _ _ h refl)
  prim_full (g.parens {ts = ts} {a = a} o d z) zero le = absurd (omega (arith, le, ((open_eats ts).holds a o).shorter))
  prim_full (g.parens {ts = ts} {a = a} {rest = rest} o d z) (suc m) le =
      some_on _ _ _ o (bind_is _ _ (expr_full d rest z m (omega (arith, le, ((open_eats ts).holds a o).shorter))) (bind_is _ _ z refl))

pub plan_full : {ts rest : Tokens} {p : PlanTree} → IsPlan ts p rest → word w.Plan rest ≡ None → plan_at ts ≡ Some (p, rest)
unfolding plan_at plan_expr_at
plan_full (g.named_plan {a = a} {b = b} {c = c} {rest = rest} {p = p} h o d z few) none =
    some_on _ _ _ h (none_on _ _ _ (open_leads (λ y. word w.Default y ≡ None) a b o refl) (bind_is _ _ o (bind_is _ _ (expr_full d rest z (length b) (omega arith)) (bind_is _ _ z
    (cond_on _ _ _ (le-leb (operators p) max_operators few) refl)))))
plan_full (g.default_plan h q o d z) none = some_on _ _ _ h (some_on _ _ _ q (bind_is _ _ o (bind_is _ _ d (bind_is _ _ z refl))))
plan_full g.no_plan none = none_on _ _ _ none refl

-- ---- columns

-- a comma, or a parenthesis that closes
pub data Separates : Tokens → Type 0 where
  by_comma : {ts rest : Tokens} → comma_at ts ≡ Some rest → Separates ts
  by_close : {ts rest : Tokens} → close_at ts ≡ Some rest → Separates ts

separated : {ts : Tokens} (Q : Tokens → Type 0) → Separates ts → ((rest : Tokens) → Q (k.Comma ∷ rest)) → ((rest : Tokens) → Q (k.Close ∷ rest)) → Q ts
separated Q (by_comma {ts = ts} {rest = rest} h) p q = comma_leads Q ts rest h (p rest)
separated Q (by_close {ts = ts} {rest = rest} h) p q = close_leads Q ts rest h (q rest)

no_value_clause : (cause : Keyword) (ts : Tokens) → Separates ts → value_clause_at cause ts ≡ None
unfolding value_clause_at
no_value_clause cause ts s = separated (λ x. value_clause_at cause x ≡ None) s (λ _. refl) (λ _. refl)

no_exists_clause : (ts : Tokens) → Separates ts → exists_clause_at ts ≡ None
unfolding exists_clause_at
no_exists_clause ts s = separated (λ x. exists_clause_at x ≡ None) s (λ _. refl) (λ _. refl)

no_path : (ts : Tokens) → word w.Path ts ≡ None → path_at ts ≡ None
unfolding path_at
no_path ts h = bind_none _ _ (bind_none _ _ h)

no_encoding : (ts : Tokens) → word w.Encoding ts ≡ None → encoding_at ts ≡ None
unfolding encoding_at
no_encoding ts h = bind_none _ _ h

no_path_name : (ts : Tokens) → word w.As ts ≡ None → path_name_at ts ≡ None
unfolding path_name_at alias_at
no_path_name ts h = bind_none _ _ (bind_none _ _ h)

formatted_not_for : (ts rest : Tokens) → formatted_at ts ≡ Some rest → word w.For ts ≡ None
unfolding formatted_at
formatted_not_for ts rest h =
    let a = bound (word w.Varchar ts >>= word w.Format) (word w.Json) h in
    let b = bound (word w.Varchar ts) (word w.Format) a.is in
    other_word w.Varchar w.For refl ts b.value b.is

no_format : (ts : Tokens) → word w.Varchar ts ≡ None → formatted_at ts ≡ None
unfolding formatted_at
no_format ts h = bind_none _ _ (bind_none _ _ h)

-- BOOLEAN is the first word of BOOLEAN EXISTS
existence_not : (v : Keyword) → same w.Boolean v ≡ false → (ts rest : Tokens) → existence_at ts ≡ Some rest → word v ts ≡ None
unfolding existence_at
existence_not v e ts rest h = let b = bound (word w.Boolean ts) (word w.Exists) h in other_word w.Boolean v e ts b.value b.is

-- PATH does not stand before the action of a column that has none of its own
exists_stops : {c rest : Tokens} {x : _} → IsOptional exists_clause_at on_exists.False c x rest → Separates rest → word w.Path c ≡ None
exists_stops {c} error s =
    through (λ y. word w.Path y ≡ None) error (λ h. exists_leads (λ y. word w.Path y ≡ None) c _ h (λ _ _. refl) (λ _ _. refl) (λ _ _. refl) (λ _ _. refl))
    (separated (λ y. word w.Path y ≡ None) s (λ _. refl) (λ _. refl))

-- a word that stands at no action does not stand before the actions of a column that has none of its own
value_stops : {c d rest : Tokens} {x y : _} (v : Keyword) → same w.Default v ≡ false → same w.Error v ≡ false → same w.Null v ≡ false → ((r : Tokens) → word v (k.Comma ∷ r) ≡ None) → ((r : Tokens) → word v (k.Close ∷ r) ≡ None)
    → IsOptional (value_clause_at w.Empty) on_value.Null c x d → IsOptional (value_clause_at w.Error) on_value.Null d y rest → Separates rest → word v c ≡ None
value_stops {c} {d} v a e z p q empty error s =
    through (λ y. word v y ≡ None) empty (λ h. value_clause_leads (λ y. word v y ≡ None) w.Empty c _ h (λ _ r. off r a) (λ _ r. off r e) (λ _ r. off r z))
    (through (λ y. word v y ≡ None) error (λ h. value_clause_leads (λ y. word v y ≡ None) w.Error d _ h (λ _ r. off r a) (λ _ r. off r e) (λ _ r. off r z)) (separated (λ y. word v y ≡ None) s p q))
  where
    off : {b : Bool} (r : Tokens) → b ≡ false → cond b (Some r) None ≡ None
    off r h = ap (λ b. cond b (Some r) None) h

regular_stops : {b c d rest : Tokens} {name : List ℕ} {path : PathText} {x y : _} (v : Keyword) → same w.Path v ≡ false → same w.Default v ≡ false → same w.Error v ≡ false → same w.Null v ≡ false
    → ((r : Tokens) → word v (k.Comma ∷ r) ≡ None) → ((r : Tokens) → word v (k.Close ∷ r) ≡ None)
    → IsColumnPath name b path c → IsOptional (value_clause_at w.Empty) on_value.Null c x d → IsOptional (value_clause_at w.Error) on_value.Null d y rest → Separates rest → word v b ≡ None
regular_stops {b} v o a e z p q path empty error s =
    through (λ y. word v y ≡ None) path (λ h. path_leads (λ y. word v y ≡ None) b _ h (λ _ r. ap (λ b. cond b (Some r) None) o)) (value_stops v a e z p q empty error s)

columns_lead : {ts rest : Tokens} {xs : Columns PathText} (Q : Tokens → Type 0) → IsColumns ts xs rest → ((text : List ℕ) (r : Tokens) → Q (k.Word w.Columns text ∷ r)) → Q ts
columns_lead Q (g.columns {ts = ts} {a = a} h o d z) q = said Q w.Columns ts a h (λ text. q text a)

no_table_clause : (ts rest : Tokens) → close_at ts ≡ Some rest → table_clause_at ts ≡ None
unfolding table_clause_at
no_table_clause ts rest h = bind_none _ _ (close_leads (λ x. meant table_action_of x ≡ None) ts rest h refl)

-- AS does not stand before a PASSING clause
name_stops : {ts rest : Tokens} {xs : List Passed} → IsPassing ts xs rest → word w.As rest ≡ None → word w.As ts ≡ None
name_stops g.nothing h = h
name_stops (g.variables {ts = ts} {a = a} q d) h = said (λ y. word w.As y ≡ None) w.Passing ts a q (λ _. refl)

nil_no_alias : alias_at [] ≡ None
unfolding alias_at
nil_no_alias = refl

end_no_alias : table_alias_at [] ≡ None
unfolding table_alias_at
end_no_alias = refl

comma_no_alias : (ts rest : Tokens) → comma_at ts ≡ Some rest → alias_at ts ≡ None
unfolding alias_at
comma_no_alias ts rest h = comma_leads (λ x. alias_at x ≡ None) ts rest h refl

from_no_alias : (ts rest : Tokens) → word w.From ts ≡ Some rest → alias_at ts ≡ None
unfolding alias_at
from_no_alias ts rest h = said (λ x. alias_at x ≡ None) w.From ts rest h (λ _. refl)

none_some : {A : Type 0} {a : A} → None ≡ Some a → ⊥
none_some q = cc

-- a literal begins with no word but three
literal_no_word : (v : Keyword) → constant_of v ≡ None → (ts : Tokens) (x : Literal × Tokens) → literal_at ts ≡ Some x → word v ts ≡ None
literal_no_word v c ts x e = go (word v ts) refl
  where
    go : (o : Option Tokens) → word v ts ≡ o → word v ts ≡ None
    go None q = q
    go (Some rest) q = absurd (none_some (sym (word_not_literal v c ts rest q) ∙ e))

-- a value begins with the name of no aggregate
value_no_agg : {s : Source} {ts rest : Tokens} {x : Value PathText} (v : Keyword) → ((ts : Tokens) (y : Literal × Tokens) → literal_at ts ≡ Some y → word v ts ≡ None) → is_reserved v ≡ true
    → same w.JsonExists v ≡ false → same w.JsonValue v ≡ false → same w.JsonQuery v ≡ false → same w.JsonObject v ≡ false → same w.JsonArray v ≡ false → IsValue s ts x rest → word v ts ≡ None
value_no_agg v l h e u q o a d = value_heads (λ y. word v y ≡ None) l (name_not_word v h) (λ _ r. off r e) (λ _ r. off r u) (λ _ r. off r q) (λ _ r. off r o) (λ _ r. off r a) d
  where
    off : {b : Bool} (r : Tokens) → b ≡ false → cond b (Some r) None ≡ None
    off r h = ap (λ b. cond b (Some r) None) h

plain_no_star : {ts : Tokens} {xs : List (Value PathText)} → IsList IsPlainItem ts xs [] → star_at ts ≡ None
plain_no_star (g.last (g.plain_item d o)) = value_not_star d
plain_no_star (g.more (g.plain_item d o) c q) = value_not_star d

row_no_star : {ts rest : Tokens} {x : Item PathText} → IsRowItem ts x rest → star_at ts ≡ None
row_no_star (g.single d) = value_not_star d
row_no_star (g.array_agg {ts = ts} {a = a} h o v nl z) = said (λ y. star_at y ≡ None) w.JsonArrayAgg ts a h (λ _. refl)
row_no_star (g.object_agg {ts = ts} {a = a} h o m nl u z) = said (λ y. star_at y ≡ None) w.JsonObjectAgg ts a h (λ _. refl)

listed_no_star : {ts rest : Tokens} {xs : List (Item PathText)} → IsList IsListedItem ts xs rest → star_at ts ≡ None
listed_no_star (g.last (g.listed_item d o)) = row_no_star d
listed_no_star (g.more (g.listed_item d o) c q) = row_no_star d

-- the same result with other tokens behind it
pub behind : {A F : Type 0} {x : A} {f : F} {a b : Tokens} → a ≡ b → ◌≡◌ {A = Option (A × F × Tokens)} (Some (x, f, a)) (Some (x, f, b))
behind e = cc

module _ {P F : Type 0} (n : Notes P F) where
  mutual
    unfolding columns_at columns_over columns_from column_at nested_from named_column_at regular_at formatted_from existence_from

    column_full : {ts rest : Tokens} {x : ColumnOf PathText} → IsColumn ts x rest → Separates rest → (m : ℕ) → length ts ≤ m → (f : F)
        → column_at n (columns_at n m) f ts ≡ Some (column_with n x, note_column n x f, rest)
    column_full (g.ordinality {ts = ts} {a = a} {name = x} h i o) s m le f =
        none_on _ _ _ (name_not_word w.Nested refl ts (x, a) h) (bind_is _ _ h (some_on _ _ _ i (bind_is _ _ o refl)))
    column_full (g.regular {ts = ts} {a = a} {b = b} {c = c} {d = d} {rest = rest} {name = x} {ty = ty} h i p empty error) s m le f =
        none_on _ _ _ (name_not_word w.Nested refl ts (x, a) h) (bind_is _ _ h (none_on _ _ _ (type_not_for a (ty, b) i) (none_on _ _ _ (type_not_formatted a (ty, b) i (regular_stops w.Format refl refl refl refl (λ _. refl) (λ _. refl) p empty error s))
        (none_on _ _ _ (type_not_existence a (ty, b) i (regular_stops w.Exists refl refl refl refl (λ _. refl) (λ _. refl) p empty error s))
        (bind_is _ _ i (bind_is _ _ (optional_full p (no_path c (value_stops w.Path refl refl refl (λ _. refl) (λ _. refl) empty error s)))
        (bind_is _ _ (optional_full empty (through (λ y. value_clause_at w.Empty y ≡ None) error (λ h. value_error_alone d _ h) (no_value_clause w.Empty rest s)))
        (bind_is _ _ (optional_full error (no_value_clause w.Error rest s)) refl))))))))
    column_full (g.formatted {ts = ts} {a = a} {b = b} {c = c} {d = d} {name = x} h fo en p clauses) s m le f =
        none_on _ _ _ (name_not_word w.Nested refl ts (x, a) h) (bind_is _ _ h (none_on _ _ _ (formatted_not_for a b fo) (some_on _ _ _ fo
        (bind_is _ _ (optional_full en (no_encoding c (through (λ y. word w.Encoding y ≡ None) p (λ h. path_leads (λ y. word w.Encoding y ≡ None) c _ h (λ _ _. refl))
        (query_clauses_lead (λ y. word w.Encoding y ≡ None) clauses (λ _ _. refl) (λ _ _. refl) (λ _ _. refl) (λ _ _. refl) (λ _ _. refl) (λ _ _. refl) (λ _ _. refl) (separated (λ y. word w.Encoding y ≡ None) s (λ _. refl) (λ _. refl))))))
        (bind_is _ _ (optional_full p (no_path d (query_clauses_lead (λ y. word w.Path y ≡ None) clauses (λ _ _. refl) (λ _ _. refl) (λ _ _. refl) (λ _ _. refl) (λ _ _. refl) (λ _ _. refl) (λ _ _. refl) (separated (λ y. word w.Path y ≡ None) s (λ _. refl) (λ _. refl)))))
        (bind_is _ _ (query_clauses_full clauses (separated NoQueryClause s comma_no_query close_no_query)) refl))))))
    column_full (g.existence {ts = ts} {a = a} {b = b} {c = c} {rest = rest} {name = x} h ex p error) s m le f =
        none_on _ _ _ (name_not_word w.Nested refl ts (x, a) h) (bind_is _ _ h (none_on _ _ _ (existence_not w.For refl a b ex) (none_on _ _ _ (no_format a (existence_not w.Varchar refl a b ex)) (some_on _ _ _ ex
        (bind_is _ _ (optional_full p (no_path c (exists_stops error s))) (bind_is _ _ (optional_full error (no_exists_clause rest s)) refl))))))
    column_full (g.nested {ts = ts} {a = a} h p nm d) s zero le f = absurd (omega (arith, le, ((word_eats w.Nested ts refl).holds a h).shorter))
    column_full (g.nested {ts = ts} {a = a} {b = b} {c = c} {path = path} h p nm d) s (suc m) le f =
        some_on _ _ _ h (bind_is _ _ p (bind_is _ _ (optional_full nm (no_path_name c (columns_lead (λ y. word w.As y ≡ None) d (λ _ _. refl))))
        (bind_is _ _ (columns_full d m (omega (arith, le, ((word_eats w.Nested ts refl).holds a h).shorter, ((nested_path_eats a).holds (path, b) p).shorter, (optional_passes path_name_eats nm).within)) (n.see_path path f)) refl)))

    pub columns_full : {ts rest : Tokens} {xs : Columns PathText} → IsColumns ts xs rest → (m : ℕ) → length ts ≤ m → (f : F)
        → columns_over n (columns_at n m) f ts ≡ Some (columns_with n xs, note_columns n xs f, rest)
    columns_full (g.columns {ts = ts} {a = a} {b = b} {rest = rest} h o d z) m le f =
        bind_is _ _ h (bind_is _ _ o (bind_is _ _ (column_list_full d rest z m (omega (arith, le, ((word_eats w.Columns ts refl).holds a h).shorter, ((open_eats a).holds b o).shorter)) (length b) (omega arith) f) (bind_is _ _ z refl)))

    column_list_full : {ts rest : Tokens} {xs : Columns PathText} → IsColumnList ts xs rest → (r : Tokens) → close_at rest ≡ Some r → (m : ℕ) → length ts ≤ m → (turns : ℕ) → length ts ≤ turns → (f : F)
        → columns_from n (columns_at n m) turns f ts ≡ Some (columns_with n xs, note_columns n xs f, rest)
    column_list_full (g.last_column d) r z m le zero lt f = absurd (omega (arith, lt, (column_eats d).shorter))
    column_list_full (g.last_column {rest = rest} d) r z m le (suc turns) lt f = bind_is _ _ (column_full d (by_close z) m le f) (none_on _ _ _ (close_leads (λ y. comma_at y ≡ None) rest r z refl) refl)
    column_list_full (g.more_columns d c q) r z m le zero lt f = absurd (omega (arith, lt, (column_eats d).shorter))
    column_list_full (g.more_columns {a = a} {b = b} {x = x} d c q) r z m le (suc turns) lt f =
        bind_is _ _ (column_full d (by_comma c) m le f) (some_on _ _ _ c
        (bind_is _ _ (column_list_full q r z m (omega (arith, le, (column_eats d).shorter, ((comma_eats a).holds b c).shorter)) turns (omega (arith, lt, (column_eats d).shorter, ((comma_eats a).holds b c).shorter)) (note_column n x f)) refl))

  -- ---- tables

  pub table_full : {ts rest : Tokens} {x : Table PathText} → IsTable ts x rest → table_alias_at rest ≡ None → (f : F) → table_at n f ts ≡ Some (table_with n x, note_table n x f, rest)
  unfolding table_at row_path_at columns_at
  table_full (g.json_table {b = b} {c = c} {d = d} {e = e} {f = i} {g = j} {h = l} {i = q} {j = u} {m = y} {rest = rest} {x = enc} {path = path} {xs = xs} h o dc comma s name v cols p r z alias) none f =
      bind_is _ _ h (bind_is _ _ o (bind_is _ _
      (bind_is _ _ (document_full dc (comma_no_format c d comma)) (bind_is _ _ comma (bind_is _ _ s (bind_is _ _ (optional_full name (no_path_name i no_as)) (bind_is _ _ (passing_full v stop) refl)))))
      (bind_is _ _ (columns_full cols (length j) (omega arith) (n.see_path (Written path) (note_encoding n enc f))) (bind_is _ _ (plan_full p no_plan) (bind_is _ _ (optional_full r (no_table_clause u y z)) (bind_is _ _ z
      (behind (over_full alias none))))))))
    where
      no_as : word w.As i ≡ None
      no_as = name_stops v (columns_lead (λ y. word w.As y ≡ None) cols (λ _ _. refl))

      stop : NoPassing j
      stop = columns_lead NoPassing cols (λ _ _. record { no_word = refl; no_comma = refl })

      no_plan : word w.Plan q ≡ None
      no_plan = through (λ y. word w.Plan y ≡ None) r (λ h. table_clause_leads (λ y. word w.Plan y ≡ None) q _ h (λ _ _. refl) (λ _ _. refl)) (close_not_word w.Plan u y z)

  -- ---- items and statements

  item_ends : {a rest : Tokens} → IsPassedOver alias_at a rest → EndsDocument rest → EndsDocument a
  item_ends (g.passed {ts = ts} {rest = rest} {x = x} h) e = alias_leads EndsDocument ts (x, rest) h (λ t r. ends_as t r)
  item_ends g.missing e = e

  plain_item_full : (ts rest : Tokens) (x : Value PathText) → IsPlainItem ts x rest → EndsDocument rest → alias_at rest ≡ None → (f : F) → plain_item_at n f ts ≡ Some (value_with n x, note_value n x f, rest)
  unfolding plain_item_at value_at
  plain_item_full ts rest x (g.plain_item d o) e none f = bind_is _ _ (value_full n d (item_ends o e) (length ts) (omega arith) f) (behind (over_full o none))

  row_item_full : {ts rest : Tokens} {x : Item PathText} → IsRowItem ts x rest → (f : F) → row_item_at n f ts ≡ Some (item_with n x, note_item n x f, rest)
  unfolding row_item_at array_agg_from object_agg_from value_at
  row_item_full (g.single {ts = ts} d) f =
      none_on _ _ _ (value_no_agg w.JsonArrayAgg (literal_no_word w.JsonArrayAgg refl) refl refl refl refl refl refl d) (none_on _ _ _ (value_no_agg w.JsonObjectAgg (literal_no_word w.JsonObjectAgg refl) refl refl refl refl refl refl d)
      (bind_is _ _ (value_full n d tt (length ts) (omega arith) f) refl))
  row_item_full (g.array_agg {b = b} {d = d} {rest = rest} h o v nl z) f =
      some_on _ _ _ h (bind_is _ _ o (bind_is _ _ (value_full n v tt (length b) (omega arith) f) (bind_is _ _ (optional_full nl (close_no_nulls d rest z)) (bind_is _ _ z refl))))
  row_item_full (g.object_agg {ts = ts} {a = a} {b = b} {d = d} {e = e} {rest = rest} h o m nl u z) f =
      none_on _ _ _ (other_word w.JsonObjectAgg w.JsonArrayAgg refl ts a h) (some_on _ _ _ h (bind_is _ _ o (bind_is _ _ (member_full n m tt (length b) (omega arith) f)
      (bind_is _ _ (optional_full nl (object_nulls u z)) (bind_is _ _ (optional_full u (close_no_unique e rest z)) (bind_is _ _ z refl))))))

  listed_item_full : (ts rest : Tokens) (x : Item PathText) → IsListedItem ts x rest → alias_at rest ≡ None → (f : F) → listed_item_at n f ts ≡ Some (item_with n x, note_item n x f, rest)
  unfolding listed_item_at
  listed_item_full ts rest x (g.listed_item d o) none f = bind_is _ _ (row_item_full d f) (behind (over_full o none))

  plain_items_full : {ts : Tokens} {xs : List (Value PathText)} → IsList IsPlainItem ts xs [] → (turns : ℕ) → length ts ≤ turns → (f : F)
      → items_from n (plain_item_at n) turns f ts ≡ Some (plain_with n xs, note_plain n xs f, [])
  unfolding items_from
  plain_items_full (g.last {ts = ts} {x = x} d) zero lt f = absurd (omega (arith, (plain_item_eats ts [] x d).shorter))
  plain_items_full (g.last {ts = ts} {x = x} d) (suc turns) lt f = bind_is _ _ (plain_item_full ts [] x d ends_here nil_no_alias f) refl
  plain_items_full (g.more {ts = ts} {a = a} {x = x} d c q) zero lt f = absurd (omega (arith, (plain_item_eats ts a x d).shorter))
  plain_items_full (g.more {ts = ts} {a = a} {b = b} {x = x} d c q) (suc turns) lt f =
      bind_is _ _ (plain_item_full ts a x d (comma_leads EndsDocument a b c (ends_comma b)) (comma_no_alias a b c) f) (some_on _ _ _ c
      (bind_is _ _ (plain_items_full q turns (omega (arith, lt, (plain_item_eats ts a x d).shorter, ((comma_eats a).holds b c).shorter)) (note_value n x f)) refl))

  listed_items_full : {ts rest r : Tokens} {xs : List (Item PathText)} → IsList IsListedItem ts xs rest → word w.From rest ≡ Some r → (turns : ℕ) → length ts ≤ turns → (f : F)
      → items_from n (listed_item_at n) turns f ts ≡ Some (items_with n xs, note_items n xs f, rest)
  unfolding items_from
  listed_items_full (g.last {ts = ts} {rest = rest} {x = x} d) h zero lt f = absurd (omega (arith, (listed_item_eats ts rest x d).shorter))
  listed_items_full {r = r} (g.last {ts = ts} {rest = rest} {x = x} d) h (suc turns) lt f =
      bind_is _ _ (listed_item_full ts rest x d (from_no_alias rest r h) f) (none_on _ _ _ (said (λ y. comma_at y ≡ None) w.From rest r h (λ _. refl)) refl)
  listed_items_full (g.more {ts = ts} {a = a} {x = x} d c q) h zero lt f = absurd (omega (arith, (listed_item_eats ts a x d).shorter))
  listed_items_full (g.more {ts = ts} {a = a} {b = b} {x = x} d c q) h (suc turns) lt f =
      bind_is _ _ (listed_item_full ts a x d (comma_no_alias a b c) f) (some_on _ _ _ c
      (bind_is _ _ (listed_items_full q h turns (omega (arith, lt, (listed_item_eats ts a x d).shorter, ((comma_eats a).holds b c).shorter)) (note_item n x f)) refl))

  pub select_full : {ts : Tokens} {x : Statement PathText} → IsSelect ts x → (f : F) → select_at n f ts ≡ Some (statement_with n x, note_statement n x f)
  unfolding select_at all_at listed_at plain_at
  select_full (g.plain {a = a} h d) f =
      bind_is _ _ h (none_on _ _ _ (plain_no_star d) (cond_off _ _ _ (list_eats plain_item_eats d).from (bind_is _ _ (plain_items_full d (length a) (omega arith) f) refl)))
  select_full (g.all h s fr d) f = bind_is _ _ h (some_on _ _ _ s (bind_is _ _ fr (bind_is _ _ (table_full d end_no_alias f) refl)))
  select_full (g.listed {a = a} {b = b} {c = c} {xs = xs} h d fr t) f =
      bind_is _ _ h (none_on _ _ _ (listed_no_star d) (cond_on _ _ _ ((list_eats listed_item_eats d).from ∙ said (λ y. has_from y ≡ true) w.From b c fr (λ _. refl))
      (bind_is _ _ (listed_items_full d fr (length a) (omega arith) f) (bind_is _ _ fr (bind_is _ _ (table_full t end_no_alias (note_items n xs f)) refl)))))
