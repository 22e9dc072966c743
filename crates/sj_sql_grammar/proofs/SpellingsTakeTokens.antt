-- Each spelling takes tokens, and none of them is the word FROM.
use Rattle.std.proofs.Common.{◌≡◌, ℕ, ◌<◌, ◌≤◌, Bool, true, false, ◌||◌, List, [], ◌∷◌, length, Option, Some, None, refl, sym, ap, ◌∙◌, arith}
use Rattle.sj_base.specs.Options.{◌>>=◌}
use Rattle.sj_sql_token.specs.declared.token.Token.TheVariants as k
use Rattle.sj_sql_token.specs.declared.keyword.Keyword.{Keyword}
use Rattle.sj_sql_token.specs.declared.keyword.Keyword.TheVariants as w
use Rattle.sj_sql_token.specs.Keywords.{is_reserved}
use Rattle.sj_sql_token.specs.Same.{same}
use Rattle.sj_sql_token.proofs.Keywords.{same_is}
use Rattle.sj_path_tree.specs.declared.parts.Literal.TheVariants as l
use Rattle.sj_sql_grammar.specs.declared.clauses.TypeName.{TypeName}
use Rattle.sj_sql_grammar.specs.Phrases.{Tokens, Phrase, if_some, word, open_at, close_at, comma_at, colon_at, string_at, count_at, number_at, name_at, doc_at, meant, skip_word, constant_of, literal_at, sized, varchar_at, fixed_at, numeric_at, type_from, type_at, encoding_of, encoding_at, format_at, passed_at, on_at, exists_action_of, exists_clause_at, returning_at, value_action_of, value_action_at, value_clause_at, query_action_of, emptied_of, query_action_at, query_clause_at, condition_of, wrapped, wrapper_at, quotes_of, quotes_at, not_at, unique_of, unique_at, nulls_of, nulls_at, alias_at, table_alias_at, path_name_at, path_at, nested_path_at, formatted_at, existence_at, table_action_of, table_clause_at, in_out_of, siblings_of, default_at}
use Rattle.sj_sql_grammar.specs.Reading.{has_from}
use Rattle.sj_sql_grammar.proofs.ReadTokens.{If, nothing, here, then, given, either, chosen, weaken, said}

-- some tokens are taken, without the word FROM
pub record Eats (ts rest : Tokens) : Type 0 where
  pub shorter : length rest < length ts
  pub from : has_from ts ≡ has_from rest

-- the same of no tokens or some
pub record Passes (ts rest : Tokens) : Type 0 where
  pub within : length rest ≤ length ts
  pub from : has_from ts ≡ has_from rest

pub stays : (ts : Tokens) → Passes ts ts
stays ts = record { within = omega arith; from = refl }

pub passes : {ts rest : Tokens} → Eats ts rest → Passes ts rest
passes e = record { within = omega (arith, e.shorter); from = e.from }

pub eats : {a b c : Tokens} → Eats a b → Passes b c → Eats a c
eats e p = record { shorter = omega (arith, e.shorter, p.within); from = e.from ∙ p.from }

pub and_eats : {a b c : Tokens} → Passes a b → Eats b c → Eats a c
and_eats p e = record { shorter = omega (arith, e.shorter, p.within); from = p.from ∙ e.from }

pub both : {a b c : Tokens} → Passes a b → Passes b c → Passes a c
both p q = record { within = omega (arith, p.within, q.within); from = p.from ∙ q.from }

pub joined : {a b c : Tokens} → Eats a b → Eats b c → Eats a c
joined d e = eats d (passes e)

-- ---- single tokens

other : (v : Keyword) → (v ≡ w.From → ⊥) → same v w.From ≡ false
other v h = go (same v w.From) refl
  where
    go : (b : Bool) → same v w.From ≡ b → same v w.From ≡ false
    go true e = absurd (h (same_is v w.From e))
    go false e = e

word_taken : (v : Keyword) (text : List ℕ) (ts : Tokens) → same v w.From ≡ false → Eats (k.Word v text ∷ ts) ts
word_taken v text ts h = record { shorter = omega arith; from = ap (λ b. b || has_from ts) h }

pub word_eats : (v : Keyword) (ts : Tokens) → same v w.From ≡ false → If (Eats ts) (word v ts)
word_eats v ts h = record { holds = λ rest e. said (λ x. Eats x rest) v ts rest e (λ text. word_taken v text rest h) }

pub open_eats : (ts : Tokens) → If (Eats ts) (open_at ts)
open_eats (k.Open ∷ ts) = here (record { shorter = omega arith; from = refl })
open_eats _ = nothing

pub close_eats : (ts : Tokens) → If (Eats ts) (close_at ts)
close_eats (k.Close ∷ ts) = here (record { shorter = omega arith; from = refl })
close_eats _ = nothing

pub comma_eats : (ts : Tokens) → If (Eats ts) (comma_at ts)
comma_eats (k.Comma ∷ ts) = here (record { shorter = omega arith; from = refl })
comma_eats _ = nothing

pub colon_eats : (ts : Tokens) → If (Eats ts) (colon_at ts)
colon_eats (k.Colon ∷ ts) = here (record { shorter = omega arith; from = refl })
colon_eats _ = nothing

abbrev pub Takes : {A : Type 0} → Tokens → A × Tokens → Type 0
Takes ts x = Eats ts x.1

pub string_eats : (ts : Tokens) → If (Takes ts) (string_at ts)
string_eats (k.String s ∷ ts) = here (record { shorter = omega arith; from = refl })
string_eats _ = nothing

count_eats : (ts : Tokens) → If (Takes ts) (count_at ts)
count_eats (k.Whole d ∷ ts) = here (record { shorter = omega arith; from = refl })
count_eats _ = nothing

number_eats : (ts : Tokens) → If (Takes ts) (number_at ts)
number_eats (k.Whole d ∷ ts) = here (record { shorter = omega arith; from = refl })
number_eats (k.Fraction d ∷ ts) = here (record { shorter = omega arith; from = refl })
number_eats _ = nothing

free_word : (v : Keyword) → is_reserved v ≡ false → v ≡ w.From → ⊥
free_word v h e = apart (sym h ∙ ap is_reserved e)
  where
    apart : false ≡ true → ⊥
    apart q = cc

pub name_eats : (ts : Tokens) → If (Takes ts) (name_at ts)
name_eats (k.Quoted n ∷ ts) = here (record { shorter = omega arith; from = refl })
name_eats (k.Word v text ∷ ts) = chosen _ _ _ (λ _. nothing) (λ h. here (word_taken v text ts (other v (free_word v h))))
name_eats _ = nothing

quoted_taken : (n : List ℕ) (ts : Tokens) → Eats (k.Quoted n ∷ ts) ts
quoted_taken n ts = record { shorter = omega arith; from = refl }

pub doc_eats : (ts : Tokens) → If (Eats ts) (doc_at ts)
doc_eats (k.Quoted n ∷ ts) = chosen _ _ _ (λ _. here (quoted_taken n ts)) (λ _. nothing)
doc_eats (k.Word w.Other text ∷ ts) = chosen _ _ _ (λ _. here (word_taken w.Other text ts refl)) (λ _. nothing)
doc_eats _ = nothing

pub meant_eats : {A : Type 0} (f : Keyword → Option A) → f w.From ≡ None → (ts : Tokens) → If (Takes ts) (meant f ts)
meant_eats f none (k.Word v text ∷ ts) = given _ _ (λ a h. here (word_taken v text ts (other v (λ e. none_some (sym none ∙ ap f (sym e) ∙ h)))))
  where
    none_some : {A : Type 0} {a : A} → None ≡ Some a → ⊥
    none_some q = cc
meant_eats f none _ = nothing

pub skip_word_passes : (v : Keyword) (ts : Tokens) → same v w.From ≡ false → Passes ts (skip_word v ts)
skip_word_passes v ts h = go (word v ts) (word_eats v ts h)
  where
    go : (o : Option Tokens) → If (Eats ts) o → Passes ts (if_some o (λ rest. rest) ts)
    go None p = stays ts
    go (Some rest) p = passes (p.holds rest refl)

-- ---- literals and types

plain_literal_eats : (ts : Tokens) → If (Takes ts) (if_some (number_at ts) (λ d. Some (l.Num d.0, d.1)) (meant constant_of ts))
plain_literal_eats ts = either _ _ _ (λ d h. here ((number_eats ts).holds d h)) (λ _. meant_eats constant_of refl ts)

pub literal_eats : (ts : Tokens) → If (Takes ts) (literal_at ts)
unfolding literal_at
literal_eats [] = nothing
literal_eats (k.String s ∷ ts) = here (record { shorter = omega arith; from = refl })
literal_eats (k.Plus ∷ ts) = then _ _ (number_eats ts) (λ d e. here (record { shorter = omega (arith, e.shorter); from = e.from }))
literal_eats (k.Minus ∷ ts) = then _ _ (number_eats ts) (λ d e. here (record { shorter = omega (arith, e.shorter); from = e.from }))
literal_eats (t ∷ ts) = plain_literal_eats (t ∷ ts)

abbrev Takes0 : {A : Type 0} → Tokens → A × Tokens → Type 0
Takes0 ts x = Passes ts x.1

sized_passes : (ty : TypeName) (ts : Tokens) → If (Takes0 ts) (sized ty ts)
sized_passes ty ts = either _ _ _ (λ a h. then _ _ (count_eats a) (λ n e. then _ _ (close_eats n.1) (λ rest g. here (passes (joined ((open_eats ts).holds a h) (joined e g))))))
    (λ _. here (stays ts))

varchar_passes : (ts : Tokens) → If (Takes0 ts) (varchar_at ts)
varchar_passes ts = either _ _ _ (λ a h. then _ _ (count_eats a) (λ n e. then _ _ (close_eats n.1) (λ rest g.
    chosen _ _ _ (λ _. here (passes (joined ((open_eats ts).holds a h) (joined e g)))) (λ _. nothing)))) (λ _. here (stays ts))

fixed_eats : (p s : ℕ) (ts : Tokens) → If (Takes ts) (fixed_at p s ts)
fixed_eats p s ts = chosen _ _ _ (λ _. then _ _ (close_eats ts) (λ rest e. here e)) (λ _. nothing)

numeric_passes : (ts : Tokens) → If (Takes0 ts) (numeric_at ts)
numeric_passes ts = either _ _ _ (λ a h. then _ _ (count_eats a) (λ p e. either _ _ _
    (λ b c. then _ _ (count_eats b) (λ s d. weaken (λ x g. passes (joined ((open_eats ts).holds a h) (joined e (joined ((comma_eats p.1).holds b c) (joined d g))))) (fixed_eats p.0 s.0 s.1)))
    (λ _. weaken (λ x g. passes (joined ((open_eats ts).holds a h) (joined e g))) (fixed_eats p.0 0 p.1)))) (λ _. here (stays ts))

type_passes : (v : Keyword) (ts : Tokens) → If (Takes0 ts) (type_from v ts)
unfolding type_from
type_passes w.Varchar ts = varchar_passes ts
type_passes w.Numeric ts = numeric_passes ts
type_passes w.Decimal ts = numeric_passes ts
type_passes w.Integer ts = here (stays ts)
type_passes w.Int ts = here (stays ts)
type_passes w.Bigint ts = here (stays ts)
type_passes w.Boolean ts = here (stays ts)
type_passes w.Float ts = sized_passes _ ts
type_passes w.Real ts = here (stays ts)
type_passes w.Double ts = then _ _ (word_eats w.Precision ts refl) (λ rest e. here (passes e))
type_passes w.Date ts = here (stays ts)
type_passes w.Time ts = sized_passes _ ts
type_passes w.Timestamp ts = sized_passes _ ts
type_passes _ ts = nothing

type_word : (v : Keyword) (ts : Tokens) (x : TypeName × Tokens) → type_from v ts ≡ Some x → same v w.From ≡ false
unfolding type_from
type_word w.From ts x h = absurd cc
type_word v ts x h = other_than v h
  where
    other_than : (v : Keyword) → type_from v ts ≡ Some x → same v w.From ≡ false
    other_than v h = go (same v w.From) refl
      where
        none_some : None ≡ Some x → ⊥
        none_some q = cc

        go : (b : Bool) → same v w.From ≡ b → same v w.From ≡ false
        go true e = absurd (none_some (ap (λ u. type_from u ts) (sym (same_is v w.From e)) ∙ h))
        go false e = e

pub type_eats : (ts : Tokens) → If (Takes ts) (type_at ts)
unfolding type_at
type_eats (k.Word v text ∷ ts) = record { holds = λ x h. eats (word_taken v text ts (type_word v ts x h)) ((type_passes v ts).holds x h) }
type_eats _ = nothing

-- ---- clauses

pub encoding_eats : (ts : Tokens) → If (Takes ts) (encoding_at ts)
unfolding encoding_at
encoding_eats ts = then _ _ (word_eats w.Encoding ts refl) (λ a e. weaken (λ x g. joined e g) (meant_eats encoding_of refl a))

pub format_eats : (ts : Tokens) → If (Takes ts) (format_at ts)
unfolding format_at
format_eats ts = then _ _ (then _ _ (word_eats w.Format ts refl) (λ a e. weaken (λ x g. joined e g) (word_eats w.Json a refl)))
    (λ a e. either _ _ _ (λ b h. weaken (λ x g. joined e (joined ((word_eats w.Encoding a refl).holds b h) g)) (meant_eats encoding_of refl b)) (λ _. here e))

pub passed_eats : (ts : Tokens) → If (Takes ts) (passed_at ts)
unfolding passed_at
passed_eats ts = then _ _ (literal_eats ts) (λ v e. then _ _ (then _ _ (word_eats w.As v.1 refl) (λ a g. weaken (λ x h. joined g h) (name_eats a))) (λ n g. here (joined e g)))

on_eats : {A : Type 0} (cause : Keyword) → same cause w.From ≡ false → (action : Phrase A) (ts : Tokens) → If (Takes ts) (action ts) → If (Takes ts) (on_at cause action ts)
on_eats cause c action ts p =
    then _ _ p (λ a e. then _ _ (then _ _ (word_eats w.On a.1 refl) (λ b g. weaken (λ x h. joined g h) (word_eats cause b c))) (λ rest g. here (joined e g)))

pub exists_clause_eats : (ts : Tokens) → If (Takes ts) (exists_clause_at ts)
unfolding exists_clause_at
exists_clause_eats ts = on_eats w.Error refl (meant exists_action_of) ts (meant_eats exists_action_of refl ts)

pub returning_eats : (ts : Tokens) → If (Takes ts) (returning_at ts)
unfolding returning_at
returning_eats ts = then _ _ (word_eats w.Returning ts refl) (λ a e. weaken (λ x g. joined e g) (type_eats a))

value_action_eats : (ts : Tokens) → If (Takes ts) (value_action_at ts)
value_action_eats ts = either _ _ _ (λ a h. then _ _ (literal_eats a) (λ v e. here (joined ((word_eats w.Default ts refl).holds a h) e))) (λ _. meant_eats value_action_of refl ts)

pub value_clause_eats : (cause : Keyword) → same cause w.From ≡ false → (ts : Tokens) → If (Takes ts) (value_clause_at cause ts)
unfolding value_clause_at
value_clause_eats cause c ts = on_eats cause c value_action_at ts (value_action_eats ts)

query_action_eats : (ts : Tokens) → If (Takes ts) (query_action_at ts)
query_action_eats ts = either _ _ _ (λ a h. weaken (λ x e. joined ((word_eats w.Empty ts refl).holds a h) e) (meant_eats emptied_of refl a)) (λ _. meant_eats query_action_of refl ts)

pub query_clause_eats : (cause : Keyword) → same cause w.From ≡ false → (ts : Tokens) → If (Takes ts) (query_clause_at cause ts)
unfolding query_clause_at
query_clause_eats cause c ts = on_eats cause c query_action_at ts (query_action_eats ts)

wrapped_eats : (x : _) (ts : Tokens) → If (Takes ts) (wrapped x ts)
wrapped_eats x ts = then _ _ (word_eats w.Wrapper (skip_word w.Array ts) refl) (λ rest e. here (and_eats (skip_word_passes w.Array ts refl) e))

pub wrapper_eats : (ts : Tokens) → If (Takes ts) (wrapper_at ts)
unfolding wrapper_at
wrapper_eats ts = either _ _ _ (λ a h. weaken (λ x e. joined ((word_eats w.Without ts refl).holds a h) e) (wrapped_eats _ a))
    (λ _. then _ _ (word_eats w.With ts refl) (λ a e. either _ _ _ (λ c h. weaken (λ x g. joined e (joined ((meant_eats condition_of refl a).holds c h) g)) (wrapped_eats c.0 c.1))
    (λ _. weaken (λ x g. joined e g) (wrapped_eats _ a))))

pub quotes_eats : (ts : Tokens) → If (Takes ts) (quotes_at ts)
unfolding quotes_at
quotes_eats ts = then _ _ (meant_eats quotes_of refl ts) (λ q e. then _ _ (word_eats w.Quotes q.1 refl) (λ a g. here (eats (joined e g) (scalar a))))
  where
    words : (a : Tokens) → If (Eats a) (word w.On a >>= word w.Scalar >>= word w.String)
    words a = then _ _ (then _ _ (word_eats w.On a refl) (λ b e. weaken (λ x g. joined e g) (word_eats w.Scalar b refl))) (λ c e. weaken (λ x g. joined e g) (word_eats w.String c refl))

    scalar : (a : Tokens) → Passes a (if_some (word w.On a >>= word w.Scalar >>= word w.String) (λ rest. rest) a)
    scalar a = go (word w.On a >>= word w.Scalar >>= word w.String) (words a)
      where
        go : (o : Option Tokens) → If (Eats a) o → Passes a (if_some o (λ rest. rest) a)
        go None p = stays a
        go (Some rest) p = passes (p.holds rest refl)

pub not_eats : (ts : Tokens) → If (Takes ts) (not_at ts)
unfolding not_at
not_eats ts = then _ _ (word_eats w.Not ts refl) (λ rest e. here e)

pub unique_eats : (ts : Tokens) → If (Takes ts) (unique_at ts)
unfolding unique_at
unique_eats ts = then _ _ (meant_eats unique_of refl ts) (λ u e. then _ _ (word_eats w.Unique u.1 refl) (λ a g. here (eats (joined e g) (skip_word_passes w.Keys a refl))))

pub nulls_eats : (ts : Tokens) → If (Takes ts) (nulls_at ts)
unfolding nulls_at
nulls_eats ts = on_eats w.Null refl (meant nulls_of) ts (meant_eats nulls_of refl ts)

-- ---- names, paths and tables

pub alias_eats : (ts : Tokens) → If (Takes ts) (alias_at ts)
unfolding alias_at
alias_eats ts = then _ _ (word_eats w.As ts refl) (λ a e. weaken (λ x g. joined e g) (name_eats a))

pub table_alias_eats : (ts : Tokens) → If (Takes ts) (table_alias_at ts)
unfolding table_alias_at
table_alias_eats ts = weaken (λ x e. and_eats (skip_word_passes w.As ts refl) e) (name_eats (skip_word w.As ts))

pub path_name_eats : (ts : Tokens) → If (Takes ts) (path_name_at ts)
unfolding path_name_at
path_name_eats ts = then _ _ (alias_eats ts) (λ n e. here e)

pub path_eats : (ts : Tokens) → If (Takes ts) (path_at ts)
unfolding path_at
path_eats ts = then _ _ (then _ _ (word_eats w.Path ts refl) (λ a e. weaken (λ x g. joined e g) (string_eats a))) (λ s e. here e)

pub nested_path_eats : (ts : Tokens) → If (Takes ts) (nested_path_at ts)
unfolding nested_path_at
nested_path_eats ts = then _ _ (string_eats (skip_word w.Path ts)) (λ s e. here (and_eats (skip_word_passes w.Path ts refl) e))

pub formatted_eats : (ts : Tokens) → If (Eats ts) (formatted_at ts)
unfolding formatted_at
formatted_eats ts = then _ _ (then _ _ (word_eats w.Varchar ts refl) (λ a e. weaken (λ x g. joined e g) (word_eats w.Format a refl))) (λ a e. weaken (λ x g. joined e g) (word_eats w.Json a refl))

pub existence_eats : (ts : Tokens) → If (Eats ts) (existence_at ts)
unfolding existence_at
existence_eats ts = then _ _ (word_eats w.Boolean ts refl) (λ a e. weaken (λ x g. joined e g) (word_eats w.Exists a refl))

pub table_clause_eats : (ts : Tokens) → If (Takes ts) (table_clause_at ts)
unfolding table_clause_at
table_clause_eats ts = on_eats w.Error refl (meant table_action_of) ts (meant_eats table_action_of refl ts)

pub default_eats : (ts : Tokens) → If (Takes ts) (default_at ts)
unfolding default_at
default_eats ts = either _ _ _
    (λ i h. either _ _ _ (λ a c. then _ _ (meant_eats siblings_of refl a) (λ s e. here (joined ((meant_eats in_out_of refl ts).holds i h) (joined ((comma_eats i.1).holds a c) e))))
    (λ _. here ((meant_eats in_out_of refl ts).holds i h)))
    (λ _. then _ _ (meant_eats siblings_of refl ts) (λ s e. either _ _ _ (λ a c. then _ _ (meant_eats in_out_of refl a) (λ i g. here (joined e (joined ((comma_eats s.1).holds a c) g))))
    (λ _. here e)))
