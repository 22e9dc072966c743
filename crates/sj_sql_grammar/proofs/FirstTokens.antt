-- The tokens with which a phrase begins, and what may follow what.
use Rattle.std.proofs.Common.{◌≡◌, ℕ, Bool, true, false, cond, List, [], ◌∷◌, Option, Some, None, is_some, not, refl, sym, ap, subst, ◌∙◌}
use Rattle.sj_base.specs.Options.{◌>>=◌}
use Rattle.sj_path_tree.specs.declared.parts.Literal.{Literal}
use Rattle.sj_sql_token.specs.declared.token.Token.TheVariants as k
use Rattle.sj_sql_token.specs.declared.keyword.Keyword.{Keyword}
use Rattle.sj_sql_token.specs.declared.keyword.Keyword.TheVariants as w
use Rattle.sj_sql_token.specs.Keywords.{is_reserved}
use Rattle.sj_sql_token.specs.Same.{same}
use Rattle.sj_sql_grammar.specs.declared.clauses.TypeName.{TypeName}
use Rattle.sj_sql_grammar.specs.declared.clauses.QueryClauses.{QueryClauses}
use Rattle.sj_sql_grammar.specs.Tree.{PathText, Value}
use Rattle.sj_sql_grammar.specs.Phrases.{Tokens, Phrase, if_some, word, open_at, close_at, comma_at, colon_at, star_at, string_at, name_at, doc_at, meant, constant_of, literal_at, varchar_at, type_from, type_at, encoding_at, on_at, exists_action_of, exists_clause_at, returning_at, value_action_of, value_action_at, value_clause_at, query_action_of, query_action_at, query_clause_at, wrapper_at, quotes_of, quotes_at, kind_of, unique_of, unique_at, nulls_of, nulls_at, alias_at, path_name_at, path_at, formatted_at, existence_at, table_action_of, table_clause_at}
use Rattle.sj_sql_grammar.specs.Grammar as g
use Rattle.sj_sql_grammar.specs.Grammar.{IsOptional, IsPassedOver, Source, document, row, IsValue, IsIsJson, IsExistsCall, IsValueCall, AreQueryClauses, IsQueryCall}
use Rattle.sj_sql_grammar.specs.Reading.{begins_value}
use Rattle.sj_sql_grammar.proofs.ReadTokens.{some_is, said}

-- what was bound was there
pub record Bound {A B : Type 0} (o : Option A) (f : A → Option B) (b : B) : Type 0 where
  pub value : A
  pub is : o ≡ Some value
  pub rest : f value ≡ Some b

pub bound : {A B : Type 0} {b : B} (o : Option A) (f : A → Option B) → (o >>= f) ≡ Some b → Bound o f b
bound None f e = absurd cc
bound (Some a) f e = record { value = a; is = refl; rest = e }

-- a choice that gave something
pub split : {A B Q : Type 0} {x : B} (o : Option A) (f : A → Option B) (y : Option B) → if_some o f y ≡ Some x → ((a : A) → o ≡ Some a → f a ≡ Some x → Q) → (o ≡ None → y ≡ Some x → Q) → Q
split None f y e p q = q refl e
split (Some a) f y e p q = p a refl e

pub through : {A : Type 0} {phrase : Phrase A} {default x : A} {ts rest : Tokens} (Q : Tokens → Type 0) → IsOptional phrase default ts x rest → (phrase ts ≡ Some (x, rest) → Q ts) → Q rest → Q ts
through Q (g.there h) p q = p h
through Q g.absent p q = q

-- ---- single tokens

pub close_leads : (Q : Tokens → Type 0) (ts rest : Tokens) → close_at ts ≡ Some rest → Q (k.Close ∷ rest) → Q ts
close_leads Q [] rest e q = absurd cc
close_leads Q (k.Close ∷ ts) rest e q = subst (λ x. Q (k.Close ∷ x)) (sym (some_is e)) q
close_leads Q (_ ∷ ts) rest e q = absurd cc

pub open_leads : (Q : Tokens → Type 0) (ts rest : Tokens) → open_at ts ≡ Some rest → Q (k.Open ∷ rest) → Q ts
open_leads Q [] rest e q = absurd cc
open_leads Q (k.Open ∷ ts) rest e q = subst (λ x. Q (k.Open ∷ x)) (sym (some_is e)) q
open_leads Q (_ ∷ ts) rest e q = absurd cc

pub comma_leads : (Q : Tokens → Type 0) (ts rest : Tokens) → comma_at ts ≡ Some rest → Q (k.Comma ∷ rest) → Q ts
comma_leads Q [] rest e q = absurd cc
comma_leads Q (k.Comma ∷ ts) rest e q = subst (λ x. Q (k.Comma ∷ x)) (sym (some_is e)) q
comma_leads Q (_ ∷ ts) rest e q = absurd cc

pub colon_leads : (Q : Tokens → Type 0) (ts rest : Tokens) → colon_at ts ≡ Some rest → Q (k.Colon ∷ rest) → Q ts
colon_leads Q [] rest e q = absurd cc
colon_leads Q (k.Colon ∷ ts) rest e q = subst (λ x. Q (k.Colon ∷ x)) (sym (some_is e)) q
colon_leads Q (_ ∷ ts) rest e q = absurd cc

pub meant_leads : {A : Type 0} (Q : Tokens → Type 0) (f : Keyword → Option A) (ts : Tokens) (x : A × Tokens) → meant f ts ≡ Some x
    → ((v : Keyword) (text : List ℕ) (rest : Tokens) → f v ≡ Some x.0 → Q (k.Word v text ∷ rest)) → Q ts
meant_leads Q f [] x e q = absurd cc
meant_leads {A} Q f (k.Word v text ∷ ts) x e q = go (f v) refl e
  where
    go : (o : Option A) → f v ≡ o → (o >>= λ a. Some (a, ts)) ≡ Some x → Q (k.Word v text ∷ ts)
    go None h e = absurd cc
    go (Some a) h e = q v text ts (h ∙ ap (λ (y : A × Tokens). Some y.0) (some_is e))
meant_leads Q f (_ ∷ ts) x e q = absurd cc

-- ---- phrases

-- a phrase that begins with one word
word_first : {B : Type 0} {b : B} (Q : Tokens → Type 0) (v : Keyword) (ts : Tokens) (f : Tokens → Option B) → (word v ts >>= f) ≡ Some b → ((text : List ℕ) (rest : Tokens) → Q (k.Word v text ∷ rest)) → Q ts
word_first Q v ts f e q = let b = bound (word v ts) f e in said Q v ts b.value b.is (λ text. q text b.value)

pub returning_leads : (Q : Tokens → Type 0) (ts : Tokens) (x : TypeName × Tokens) → returning_at ts ≡ Some x → ((text : List ℕ) (rest : Tokens) → Q (k.Word w.Returning text ∷ rest)) → Q ts
unfolding returning_at
returning_leads Q ts x e q = word_first Q w.Returning ts _ e q

pub encoding_leads : (Q : Tokens → Type 0) (ts : Tokens) (x : _) → encoding_at ts ≡ Some x → ((text : List ℕ) (rest : Tokens) → Q (k.Word w.Encoding text ∷ rest)) → Q ts
unfolding encoding_at
encoding_leads Q ts x e q = word_first Q w.Encoding ts _ e q

pub path_leads : (Q : Tokens → Type 0) (ts : Tokens) (x : PathText × Tokens) → path_at ts ≡ Some x → ((text : List ℕ) (rest : Tokens) → Q (k.Word w.Path text ∷ rest)) → Q ts
unfolding path_at
path_leads Q ts x e q = let b = bound (word w.Path ts >>= string_at) _ e in word_first Q w.Path ts string_at b.is q

pub alias_leads : (Q : Tokens → Type 0) (ts : Tokens) (x : List ℕ × Tokens) → alias_at ts ≡ Some x → ((text : List ℕ) (rest : Tokens) → Q (k.Word w.As text ∷ rest)) → Q ts
unfolding alias_at
alias_leads Q ts x e q = word_first Q w.As ts _ e q

pub path_name_leads : (Q : Tokens → Type 0) (ts : Tokens) (x : Option (List ℕ) × Tokens) → path_name_at ts ≡ Some x → ((text : List ℕ) (rest : Tokens) → Q (k.Word w.As text ∷ rest)) → Q ts
unfolding path_name_at
path_name_leads Q ts x e q = let b = bound (alias_at ts) _ e in alias_leads Q ts b.value b.is q

pub quotes_leads : (Q : Tokens → Type 0) (ts : Tokens) (x : _) → quotes_at ts ≡ Some x
    → ((text : List ℕ) (rest : Tokens) → Q (k.Word w.Keep text ∷ rest)) → ((text : List ℕ) (rest : Tokens) → Q (k.Word w.Omit text ∷ rest)) → Q ts
unfolding quotes_at
quotes_leads Q ts x e p q = let b = bound (meant quotes_of ts) _ e in meant_leads Q quotes_of ts b.value b.is (λ v text rest h. by v text rest b.value.0 h)
  where
    by : (v : Keyword) (text : List ℕ) (rest : Tokens) (y : _) → quotes_of v ≡ Some y → Q (k.Word v text ∷ rest)
    by w.Keep text rest y h = p text rest
    by w.Omit text rest y h = q text rest
    by _ text rest y h = absurd cc

pub unique_leads : (Q : Tokens → Type 0) (ts : Tokens) (x : Bool × Tokens) → unique_at ts ≡ Some x
    → ((text : List ℕ) (rest : Tokens) → Q (k.Word w.With text ∷ rest)) → ((text : List ℕ) (rest : Tokens) → Q (k.Word w.Without text ∷ rest)) → Q ts
unfolding unique_at
unique_leads Q ts x e p q = let b = bound (meant unique_of ts) _ e in meant_leads Q unique_of ts b.value b.is (λ v text rest h. by v text rest b.value.0 h)
  where
    by : (v : Keyword) (text : List ℕ) (rest : Tokens) (y : Bool) → unique_of v ≡ Some y → Q (k.Word v text ∷ rest)
    by w.With text rest y h = p text rest
    by w.Without text rest y h = q text rest
    by _ text rest y h = absurd cc

pub wrapper_leads : (Q : Tokens → Type 0) (ts : Tokens) (x : _) → wrapper_at ts ≡ Some x
    → ((text : List ℕ) (rest : Tokens) → Q (k.Word w.With text ∷ rest)) → ((text : List ℕ) (rest : Tokens) → Q (k.Word w.Without text ∷ rest)) → Q ts
unfolding wrapper_at
wrapper_leads Q ts x e p q = split (word w.Without ts) _ _ e (λ a h _. said Q w.Without ts a h (λ text. q text a)) (λ _ e. word_first Q w.With ts _ e p)

pub exists_leads : (Q : Tokens → Type 0) (ts : Tokens) (x : _) → exists_clause_at ts ≡ Some x
    → ((text : List ℕ) (rest : Tokens) → Q (k.Word w.True text ∷ rest)) → ((text : List ℕ) (rest : Tokens) → Q (k.Word w.False text ∷ rest))
    → ((text : List ℕ) (rest : Tokens) → Q (k.Word w.Unknown text ∷ rest)) → ((text : List ℕ) (rest : Tokens) → Q (k.Word w.Error text ∷ rest)) → Q ts
unfolding exists_clause_at
exists_leads Q ts x e p q r s = let b = bound (meant exists_action_of ts) _ e in meant_leads Q exists_action_of ts b.value b.is (λ v text rest h. by v text rest b.value.0 h)
  where
    by : (v : Keyword) (text : List ℕ) (rest : Tokens) (y : _) → exists_action_of v ≡ Some y → Q (k.Word v text ∷ rest)
    by w.True text rest y h = p text rest
    by w.False text rest y h = q text rest
    by w.Unknown text rest y h = r text rest
    by w.Error text rest y h = s text rest
    by _ text rest y h = absurd cc

pub nulls_leads : (Q : Tokens → Type 0) (ts : Tokens) (x : _) → nulls_at ts ≡ Some x
    → ((text : List ℕ) (rest : Tokens) → Q (k.Word w.Null text ∷ rest)) → ((text : List ℕ) (rest : Tokens) → Q (k.Word w.Absent text ∷ rest)) → Q ts
unfolding nulls_at
nulls_leads Q ts x e p q = let b = bound (meant nulls_of ts) _ e in meant_leads Q nulls_of ts b.value b.is (λ v text rest h. by v text rest b.value.0 h)
  where
    by : (v : Keyword) (text : List ℕ) (rest : Tokens) (y : _) → nulls_of v ≡ Some y → Q (k.Word v text ∷ rest)
    by w.Null text rest y h = p text rest
    by w.Absent text rest y h = q text rest
    by _ text rest y h = absurd cc

pub table_clause_leads : (Q : Tokens → Type 0) (ts : Tokens) (x : _) → table_clause_at ts ≡ Some x
    → ((text : List ℕ) (rest : Tokens) → Q (k.Word w.Empty text ∷ rest)) → ((text : List ℕ) (rest : Tokens) → Q (k.Word w.Error text ∷ rest)) → Q ts
unfolding table_clause_at
table_clause_leads Q ts x e p q = let b = bound (meant table_action_of ts) _ e in meant_leads Q table_action_of ts b.value b.is (λ v text rest h. by v text rest b.value.0 h)
  where
    by : (v : Keyword) (text : List ℕ) (rest : Tokens) (y : _) → table_action_of v ≡ Some y → Q (k.Word v text ∷ rest)
    by w.Empty text rest y h = p text rest
    by w.Error text rest y h = q text rest
    by _ text rest y h = absurd cc

pub value_clause_leads : (Q : Tokens → Type 0) (cause : Keyword) (ts : Tokens) (x : _) → value_clause_at cause ts ≡ Some x
    → ((text : List ℕ) (rest : Tokens) → Q (k.Word w.Default text ∷ rest)) → ((text : List ℕ) (rest : Tokens) → Q (k.Word w.Error text ∷ rest)) → ((text : List ℕ) (rest : Tokens) → Q (k.Word w.Null text ∷ rest)) → Q ts
unfolding value_clause_at
value_clause_leads Q cause ts x e p q r =
    let b = bound (value_action_at ts) _ e in
    split (word w.Default ts) _ _ b.is (λ a h _. said Q w.Default ts a h (λ text. p text a)) (λ _ e. meant_leads Q value_action_of ts b.value e (λ v text rest h. by v text rest b.value.0 h))
  where
    by : (v : Keyword) (text : List ℕ) (rest : Tokens) (y : _) → value_action_of v ≡ Some y → Q (k.Word v text ∷ rest)
    by w.Error text rest y h = q text rest
    by w.Null text rest y h = r text rest
    by _ text rest y h = absurd cc

pub query_clause_leads : (Q : Tokens → Type 0) (cause : Keyword) (ts : Tokens) (x : _) → query_clause_at cause ts ≡ Some x
    → ((text : List ℕ) (rest : Tokens) → Q (k.Word w.Empty text ∷ rest)) → ((text : List ℕ) (rest : Tokens) → Q (k.Word w.Error text ∷ rest)) → ((text : List ℕ) (rest : Tokens) → Q (k.Word w.Null text ∷ rest)) → Q ts
unfolding query_clause_at
query_clause_leads Q cause ts x e p q r =
    let b = bound (query_action_at ts) _ e in
    split (word w.Empty ts) _ _ b.is (λ a h _. said Q w.Empty ts a h (λ text. p text a)) (λ _ e. meant_leads Q query_action_of ts b.value e (λ v text rest h. by v text rest b.value.0 h))
  where
    by : (v : Keyword) (text : List ℕ) (rest : Tokens) (y : _) → query_action_of v ≡ Some y → Q (k.Word v text ∷ rest)
    by w.Error text rest y h = q text rest
    by w.Null text rest y h = r text rest
    by _ text rest y h = absurd cc

-- the clauses of JSON_QUERY begin as the first of them, and where none stands, what follows does
pub query_clauses_lead : {ts rest : Tokens} {x : QueryClauses} (Q : Tokens → Type 0) → AreQueryClauses ts x rest
    → ((text : List ℕ) (r : Tokens) → Q (k.Word w.With text ∷ r)) → ((text : List ℕ) (r : Tokens) → Q (k.Word w.Without text ∷ r)) → ((text : List ℕ) (r : Tokens) → Q (k.Word w.Keep text ∷ r)) → ((text : List ℕ) (r : Tokens) → Q (k.Word w.Omit text ∷ r))
    → ((text : List ℕ) (r : Tokens) → Q (k.Word w.Empty text ∷ r)) → ((text : List ℕ) (r : Tokens) → Q (k.Word w.Error text ∷ r)) → ((text : List ℕ) (r : Tokens) → Q (k.Word w.Null text ∷ r)) → Q rest → Q ts
query_clauses_lead Q (g.query_clauses {ts = ts} {a = a} {b = b} {c = c} wrap quote empty error) p q r s l m o last =
    through Q wrap (λ h. wrapper_leads Q ts _ h p q)
    (through Q quote (λ h. quotes_leads Q a _ h r s)
    (through Q empty (λ h. query_clause_leads Q w.Empty b _ h l m o)
    (through Q error (λ h. query_clause_leads Q w.Error c _ h l m o) last)))

-- ---- one action, two causes

other_cause : {A : Type 0} (action : Phrase A) (ts : Tokens) (x : A × Tokens) → on_at w.Error action ts ≡ Some x → on_at w.Empty action ts ≡ None
other_cause {A} action ts x e =
    let a = bound (action ts) _ e in
    let b = bound (word w.On a.value.1 >>= word w.Error) _ a.rest in
    let c = bound (word w.On a.value.1) (word w.Error) b.is in
    ap (λ (o : Option (A × Tokens)). o >>= λ a. word w.On a.1 >>= word w.Empty >>= λ rest. Some (a.0, rest)) a.is
    ∙ ap (λ (o : Option Tokens). o >>= word w.Empty >>= λ rest. Some (a.value.0, rest)) c.is
    ∙ ap (λ (o : Option Tokens). o >>= λ rest. Some (a.value.0, rest)) (said (λ y. word w.Empty y ≡ None) w.Error c.value b.value c.rest (λ text. refl))

pub value_error_alone : (ts : Tokens) (x : _) → value_clause_at w.Error ts ≡ Some x → value_clause_at w.Empty ts ≡ None
unfolding value_clause_at
value_error_alone ts x e = other_cause value_action_at ts x e

pub query_error_alone : (ts : Tokens) (x : _) → query_clause_at w.Error ts ≡ Some x → query_clause_at w.Empty ts ≡ None
unfolding query_clause_at
query_error_alone ts x e = other_cause query_action_at ts x e

-- ---- names, literals and types

none_some : {A : Type 0} {a : A} → None ≡ Some a → ⊥
none_some q = cc

pub name_not_open : (ts : Tokens) (x : List ℕ × Tokens) → name_at ts ≡ Some x → open_at ts ≡ None
name_not_open (k.Open ∷ ts) x e = absurd cc
name_not_open _ x e = refl

pub name_not_close : (ts : Tokens) (x : List ℕ × Tokens) → name_at ts ≡ Some x → close_at ts ≡ None
name_not_close (k.Close ∷ ts) x e = absurd cc
name_not_close _ x e = refl

pub name_not_star : (ts : Tokens) (x : List ℕ × Tokens) → name_at ts ≡ Some x → star_at ts ≡ None
name_not_star (k.Star ∷ ts) x e = absurd cc
name_not_star _ x e = refl

-- a name is no word that is reserved
pub name_not_word : (v : Keyword) → is_reserved v ≡ true → (ts : Tokens) (x : List ℕ × Tokens) → name_at ts ≡ Some x → word v ts ≡ None
name_not_word v h ts x e = go (word v ts) refl
  where
    reserved : (text : List ℕ) (rest : Tokens) → cond (is_reserved v) None (Some (text, rest)) ≡ Some x → ⊥
    reserved text rest q = none_some (sym (ap (λ b. cond b None (Some (text, rest))) h) ∙ q)

    go : (o : Option Tokens) → word v ts ≡ o → word v ts ≡ None
    go None q = q
    go (Some rest) q = absurd (said (λ y. name_at y ≡ Some x → ⊥) v ts rest q (λ text. reserved text rest) e)

constant_free : (v : Keyword) → is_reserved v ≡ false → constant_of v ≡ None
constant_free w.True h = absurd cc
constant_free w.False h = absurd cc
constant_free w.Null h = absurd cc
constant_free _ h = refl

abbrev meaning : Tokens → Option Literal → Option (Literal × Tokens)
meaning ts o = o >>= λ a. Some (a, ts)

pub name_not_literal : (ts : Tokens) (x : List ℕ × Tokens) → name_at ts ≡ Some x → literal_at ts ≡ None
unfolding literal_at
name_not_literal (k.Quoted n ∷ ts) x e = refl
name_not_literal (k.Word v text ∷ ts) x e = go (is_reserved v) refl e
  where
    go : (b : Bool) → is_reserved v ≡ b → cond b None (Some (text, ts)) ≡ Some x → meaning ts (constant_of v) ≡ None
    go true h e = absurd cc
    go false h e = ap (meaning ts) (constant_free v h)
name_not_literal [] x e = absurd cc
name_not_literal (k.Open ∷ ts) x e = absurd cc
name_not_literal (k.Close ∷ ts) x e = absurd cc
name_not_literal (k.Comma ∷ ts) x e = absurd cc
name_not_literal (k.Semicolon ∷ ts) x e = absurd cc
name_not_literal (k.Colon ∷ ts) x e = absurd cc
name_not_literal (k.Star ∷ ts) x e = absurd cc
name_not_literal (k.Plus ∷ ts) x e = absurd cc
name_not_literal (k.Minus ∷ ts) x e = absurd cc
name_not_literal (k.String s ∷ ts) x e = absurd cc
name_not_literal (k.Whole d ∷ ts) x e = absurd cc
name_not_literal (k.Fraction d ∷ ts) x e = absurd cc

-- doc is a name, with which a value begins
pub record IsDoc (ts : Tokens) : Type 0 where
  pub name : List ℕ × Tokens
  pub is : name_at ts ≡ Some name
  pub begins : begins_value ts ≡ true

pub doc_is : (ts rest : Tokens) → doc_at ts ≡ Some rest → IsDoc ts
doc_is (k.Quoted n ∷ ts) rest e = record { name = (n, ts); is = refl; begins = refl }
doc_is (k.Word w.Other text ∷ ts) rest e = record { name = (text, ts); is = refl; begins = refl }
doc_is _ rest e = absurd cc

pub literal_begins : (ts rest : Tokens) (x : Literal) → literal_at ts ≡ Some (x, rest) → word w.On rest ≡ None → begins_value ts ≡ true
unfolding literal_at
literal_begins (k.String s ∷ ts) rest x e none = refl
literal_begins (k.Whole d ∷ ts) rest x e none = refl
literal_begins (k.Fraction d ∷ ts) rest x e none = refl
literal_begins (k.Plus ∷ ts) rest x e none = refl
literal_begins (k.Minus ∷ ts) rest x e none = refl
literal_begins (k.Word w.True text ∷ ts) rest x e none = refl
literal_begins (k.Word w.False text ∷ ts) rest x e none = refl
literal_begins (k.Word w.Null text ∷ ts) rest x e none = ap (λ o. not (is_some o)) (ap (λ (y : Literal × Tokens). word w.On y.1) (some_is e) ∙ none)
literal_begins _ rest x e none = absurd cc

pub literal_not_close : (ts : Tokens) (x : Literal × Tokens) → literal_at ts ≡ Some x → close_at ts ≡ None
unfolding literal_at
literal_not_close (k.Close ∷ ts) x e = absurd cc
literal_not_close _ x e = refl

pub literal_not_star : (ts : Tokens) (x : Literal × Tokens) → literal_at ts ≡ Some x → star_at ts ≡ None
unfolding literal_at
literal_not_star (k.Star ∷ ts) x e = absurd cc
literal_not_star _ x e = refl

pub literal_not_key : (ts : Tokens) (x : Literal × Tokens) → literal_at ts ≡ Some x → word w.Key ts ≡ None
unfolding literal_at
literal_not_key ts x e = go (word w.Key ts) refl
  where
    go : (o : Option Tokens) → word w.Key ts ≡ o → word w.Key ts ≡ None
    go None q = q
    go (Some rest) q = absurd (said (λ y. literal_at y ≡ Some x → ⊥) w.Key ts rest q (λ text. none_some) e)

pub type_not_for : (ts : Tokens) (x : TypeName × Tokens) → type_at ts ≡ Some x → word w.For ts ≡ None
unfolding type_at type_from
type_not_for ts x e = go (word w.For ts) refl
  where
    go : (o : Option Tokens) → word w.For ts ≡ o → word w.For ts ≡ None
    go None q = q
    go (Some rest) q = absurd (said (λ y. type_at y ≡ Some x → ⊥) w.For ts rest q (λ text. none_some) e)

-- where FORMAT does not follow a type, VARCHAR FORMAT JSON does not stand there
pub type_not_formatted : (ts : Tokens) (x : TypeName × Tokens) → type_at ts ≡ Some x → word w.Format x.1 ≡ None → formatted_at ts ≡ None
unfolding type_at type_from formatted_at
type_not_formatted ts x e none = go (word w.Varchar ts) refl
  where
    no_format : (o : Option Tokens) → o ≡ None → (o >>= word w.Json) ≡ None
    no_format o q = ap (λ (p : Option Tokens). p >>= word w.Json) q

    after : (rest : Tokens) → varchar_at rest ≡ Some x → word w.Format rest ≡ None
    after rest q = split (open_at rest) _ _ q (λ a h _. open_leads (λ y. word w.Format y ≡ None) rest a h refl) (λ _ q. ap (λ (y : TypeName × Tokens). word w.Format y.1) (some_is q) ∙ none)

    go : (o : Option Tokens) → word w.Varchar ts ≡ o → (o >>= word w.Format >>= word w.Json) ≡ None
    go None q = refl
    go (Some rest) q = no_format (word w.Format rest) (after rest (said (λ y. type_at y ≡ Some x → varchar_at rest ≡ Some x) w.Varchar ts rest q (λ text h. h) e))

-- where EXISTS does not follow a type, BOOLEAN EXISTS does not stand there
pub type_not_existence : (ts : Tokens) (x : TypeName × Tokens) → type_at ts ≡ Some x → word w.Exists x.1 ≡ None → existence_at ts ≡ None
unfolding type_at type_from existence_at
type_not_existence ts x e none = go (word w.Boolean ts) refl
  where
    go : (o : Option Tokens) → word w.Boolean ts ≡ o → (o >>= word w.Exists) ≡ None
    go None q = refl
    go (Some rest) q = said (λ y. type_at y ≡ Some x → word w.Exists rest ≡ None) w.Boolean ts rest q (λ text h. ap (λ (y : TypeName × Tokens). word w.Exists y.1) (some_is h) ∙ none) e

-- ---- what may follow a value

-- No part of an IS JSON predicate goes on here, and a VALUE that stands here has a value behind it.
pub record EndsDocument (ts : Tokens) : Type 0 where
  pub not_begun : begins_value ts ≡ false
  pub no_kind : meant kind_of ts ≡ None
  pub separated : (a : Tokens) → word w.Value ts ≡ Some a → begins_value a ≡ true
  pub no_on : word w.On ts ≡ None

abbrev pub Ends : Source → Tokens → Type 0
Ends document ts = EndsDocument ts
Ends row ts = Unit {0}

pub ends : (s : Source) {ts : Tokens} → EndsDocument ts → Ends s ts
ends document e = e
ends row e = tt

pub ends_close : (ts : Tokens) → EndsDocument (k.Close ∷ ts)
ends_close ts = record { not_begun = refl; no_kind = refl; separated = λ a e. absurd cc; no_on = refl }

pub ends_comma : (ts : Tokens) → EndsDocument (k.Comma ∷ ts)
ends_comma ts = record { not_begun = refl; no_kind = refl; separated = λ a e. absurd cc; no_on = refl }

pub ends_colon : (ts : Tokens) → EndsDocument (k.Colon ∷ ts)
ends_colon ts = record { not_begun = refl; no_kind = refl; separated = λ a e. absurd cc; no_on = refl }

pub ends_here : EndsDocument []
ends_here = record { not_begun = refl; no_kind = refl; separated = λ a e. absurd cc; no_on = refl }

pub ends_as : (text : List ℕ) (ts : Tokens) → EndsDocument (k.Word w.As text ∷ ts)
ends_as text ts = record { not_begun = refl; no_kind = refl; separated = λ a e. absurd cc; no_on = refl }

pub ends_absent : (text : List ℕ) (ts : Tokens) → EndsDocument (k.Word w.Absent text ∷ ts)
ends_absent text ts = record { not_begun = refl; no_kind = refl; separated = λ a e. absurd cc; no_on = refl }

pub ends_with : (text : List ℕ) (ts : Tokens) → EndsDocument (k.Word w.With text ∷ ts)
ends_with text ts = record { not_begun = refl; no_kind = refl; separated = λ a e. absurd cc; no_on = refl }

pub ends_without : (text : List ℕ) (ts : Tokens) → EndsDocument (k.Word w.Without text ∷ ts)
ends_without text ts = record { not_begun = refl; no_kind = refl; separated = λ a e. absurd cc; no_on = refl }

meant_exact : {A : Type 0} (Q : Tokens → Type 0) (f : Keyword → Option A) (ts : Tokens) (x : A × Tokens) → meant f ts ≡ Some x
    → ((v : Keyword) (text : List ℕ) → f v ≡ Some x.0 → Q (k.Word v text ∷ x.1)) → Q ts
meant_exact Q f [] x e q = absurd cc
meant_exact {A} Q f (k.Word v text ∷ ts) x e q = go (f v) refl e
  where
    go : (o : Option A) → f v ≡ o → (o >>= λ a. Some (a, ts)) ≡ Some x → Q (k.Word v text ∷ ts)
    go None h e = absurd cc
    go (Some a) h e = subst (λ y. Q (k.Word v text ∷ y)) (ap (λ (y : A × Tokens). y.1) (sym (some_is e))) (q v text (h ∙ ap (λ (y : A × Tokens). Some y.0) (some_is e)))
meant_exact Q f (_ ∷ ts) x e q = absurd cc

-- NULL ON NULL and ABSENT ON NULL begin no value
pub ends_nulls : (ts : Tokens) (x : _) → nulls_at ts ≡ Some x → EndsDocument ts
unfolding nulls_at
ends_nulls ts x e =
    let a = bound (meant nulls_of ts) _ e in
    let b = bound (word w.On a.value.1 >>= word w.Null) _ a.rest in
    let c = bound (word w.On a.value.1) (word w.Null) b.is in
    meant_exact EndsDocument nulls_of ts a.value a.is (λ v text h. by v text a.value.0 a.value.1 c.value c.is h)
  where
    by : (v : Keyword) (text : List ℕ) (y : _) (rest on : Tokens) → word w.On rest ≡ Some on → nulls_of v ≡ Some y → EndsDocument (k.Word v text ∷ rest)
    by w.Null text y rest on q h = record { not_begun = ap (λ o. not (is_some o)) q; no_kind = refl; separated = λ a e. absurd cc; no_on = refl }
    by w.Absent text y rest on q h = ends_absent text rest
    by _ text y rest on q h = absurd cc

-- ---- how a value begins

pub other_word : (v u : Keyword) → same v u ≡ false → (ts rest : Tokens) → word v ts ≡ Some rest → word u ts ≡ None
other_word v u e ts rest h = said (λ y. word u y ≡ None) v ts rest h (λ text. ap (λ b. cond b (Some rest) None) e)

pub word_not_literal : (v : Keyword) → constant_of v ≡ None → (ts rest : Tokens) → word v ts ≡ Some rest → literal_at ts ≡ None
unfolding literal_at
word_not_literal v e ts rest h = said (λ y. literal_at y ≡ None) v ts rest h (λ text. ap (meaning rest) e)

pub value_heads : {s : Source} {ts rest : Tokens} {x : Value PathText} (Q : Tokens → Type 0) → ((ts : Tokens) (y : Literal × Tokens) → literal_at ts ≡ Some y → Q ts)
    → ((ts : Tokens) (y : List ℕ × Tokens) → name_at ts ≡ Some y → Q ts) → ((text : List ℕ) (r : Tokens) → Q (k.Word w.JsonExists text ∷ r)) → ((text : List ℕ) (r : Tokens) → Q (k.Word w.JsonValue text ∷ r))
    → ((text : List ℕ) (r : Tokens) → Q (k.Word w.JsonQuery text ∷ r)) → ((text : List ℕ) (r : Tokens) → Q (k.Word w.JsonObject text ∷ r)) → ((text : List ℕ) (r : Tokens) → Q (k.Word w.JsonArray text ∷ r))
    → IsValue s ts x rest → Q ts
value_heads Q l m e v q o a (g.literal {ts = ts} {rest = rest} {x = x} h) = l ts (x, rest) h
value_heads Q l m e v q o a (g.column {ts = ts} {rest = rest} {name = x} h) = m ts (x, rest) h
value_heads Q l m e v q o a (g.exists (g.exists_call {ts = ts} {a = r} h _ _ _ _)) = said Q w.JsonExists ts r h (λ text. e text r)
value_heads Q l m e v q o a (g.value (g.value_call {ts = ts} {a = r} h _ _ _ _ _ _)) = said Q w.JsonValue ts r h (λ text. v text r)
value_heads Q l m e v q o a (g.query (g.query_call {ts = ts} {a = r} h _ _ _ _)) = said Q w.JsonQuery ts r h (λ text. q text r)
value_heads Q l m e v q o a (g.is_json (g.is_json_call {ts = ts} {a = r} h _ _ _ _ _)) = let d = doc_is ts r h in m ts d.name d.is
value_heads Q l m e v q o a (g.no_object {ts = ts} {a = r} h _ _) = said Q w.JsonObject ts r h (λ text. o text r)
value_heads Q l m e v q o a (g.object {ts = ts} {a = r} h _ _ _ _ _) = said Q w.JsonObject ts r h (λ text. o text r)
value_heads Q l m e v q o a (g.no_array {ts = ts} {a = r} h _ _) = said Q w.JsonArray ts r h (λ text. a text r)
value_heads Q l m e v q o a (g.array {ts = ts} {a = r} h _ _ _ _) = said Q w.JsonArray ts r h (λ text. a text r)

pub value_not_close : {s : Source} {ts rest : Tokens} {x : Value PathText} → IsValue s ts x rest → close_at ts ≡ None
value_not_close d = value_heads (λ y. close_at y ≡ None) literal_not_close name_not_close (λ _ _. refl) (λ _ _. refl) (λ _ _. refl) (λ _ _. refl) (λ _ _. refl) d

pub value_not_star : {s : Source} {ts rest : Tokens} {x : Value PathText} → IsValue s ts x rest → star_at ts ≡ None
value_not_star d = value_heads (λ y. star_at y ≡ None) literal_not_star name_not_star (λ _ _. refl) (λ _ _. refl) (λ _ _. refl) (λ _ _. refl) (λ _ _. refl) d

pub value_not_key : {s : Source} {ts rest : Tokens} {x : Value PathText} → IsValue s ts x rest → word w.Key ts ≡ None
value_not_key d = value_heads (λ y. word w.Key y ≡ None) literal_not_key (name_not_word w.Key refl) (λ _ _. refl) (λ _ _. refl) (λ _ _. refl) (λ _ _. refl) (λ _ _. refl) d

-- a value of the document begins as one
pub value_begins : {ts rest : Tokens} {x : Value PathText} → IsValue document ts x rest → word w.On rest ≡ None → begins_value ts ≡ true
value_begins (g.literal {ts = ts} {rest = rest} {x = x} h) none = literal_begins ts rest x h none
value_begins (g.exists (g.exists_call {ts = ts} {a = r} h _ _ _ _)) none = said (λ y. begins_value y ≡ true) w.JsonExists ts r h (λ _. refl)
value_begins (g.value (g.value_call {ts = ts} {a = r} h _ _ _ _ _ _)) none = said (λ y. begins_value y ≡ true) w.JsonValue ts r h (λ _. refl)
value_begins (g.query (g.query_call {ts = ts} {a = r} h _ _ _ _)) none = said (λ y. begins_value y ≡ true) w.JsonQuery ts r h (λ _. refl)
value_begins (g.is_json (g.is_json_call {ts = ts} {a = r} h _ _ _ _ _)) none = (doc_is ts r h).begins
value_begins (g.no_object {ts = ts} {a = r} h _ _) none = said (λ y. begins_value y ≡ true) w.JsonObject ts r h (λ _. refl)
value_begins (g.object {ts = ts} {a = r} h _ _ _ _ _) none = said (λ y. begins_value y ≡ true) w.JsonObject ts r h (λ _. refl)
value_begins (g.no_array {ts = ts} {a = r} h _ _) none = said (λ y. begins_value y ≡ true) w.JsonArray ts r h (λ _. refl)
value_begins (g.array {ts = ts} {a = r} h _ _ _ _) none = said (λ y. begins_value y ≡ true) w.JsonArray ts r h (λ _. refl)

-- a value of the document may stand before VALUE and a value
pub ends_value : (s : Source) (ts a rest : Tokens) {x : Value PathText} → word w.Value ts ≡ Some a → IsValue s a x rest → Ends s rest → Ends s ts
ends_value row ts a rest h d e = tt
ends_value document ts a rest h d e = said EndsDocument w.Value ts a h (λ text. record { not_begun = refl; no_kind = refl; separated = λ b q. subst (λ y. begins_value y ≡ true) (some_is q) (value_begins d e.no_on); no_on = refl })
