-- What was read meets a fact, and how that follows step by step.
use Rattle.std.proofs.Common.{◌≡◌, ℕ, Bool, true, false, cond, List, [], ◌∷◌, Option, Some, None, refl, ap, subst, ◌∙◌}
use Rattle.sj_base.specs.Options.{◌>>=◌}
use Rattle.sj_path_token.specs.declared.token.Token.{Token}
use Rattle.sj_path_token.specs.declared.token.Token.TheVariants as k
use Rattle.sj_path_token.specs.declared.keyword.Keyword.TheVariants as w
use Rattle.sj_path_tree.specs.declared.parts.Arith.{Arith}
use Rattle.sj_path_grammar.specs.Grammar.{Tokens, NotOpen}
use Rattle.sj_path_grammar.specs.Reading.{Read, on_some, sign_at, to_at, is_at, unknown_at, with_at, flag_at, lax_at, strict_at, open_at, close_at, bracket_at, comma_at, and_at, or_at, quoted_at, star_at}

pair : {A B : Type 0} {a c : A} {b d : B} → a ≡ c → b ≡ d → ◌≡◌ {A = A × B} (a, b) (c, d)
pair p q = cc

-- what was read, if anything was, meets P
pub record IfRead {A : Type 0} (P : A → Tokens → Type 0) (o : Read A) : Type 0 where
  pub holds : (a : A) (rest : Tokens) → o ≡ Some (a, rest) → P a rest

pub nothing : {A : Type 0} {P : A → Tokens → Type 0} → IfRead P None
nothing = record { holds = λ a rest e. absurd cc }

pub some_is : {A : Type 0} {a b : A} → Some a ≡ Some b → a ≡ b
some_is e = cc

pub here : {A : Type 0} {P : A → Tokens → Type 0} {a : A} {ts : Tokens} → P a ts → IfRead P (Some (a, ts))
here {A} {P} p = record { holds = λ b rest e. subst (λ (x : A × Tokens). P x.0 x.1) (some_is e) p }

-- one step after another
pub then : {A B : Type 0} {P : A → Tokens → Type 0} {Q : B → Tokens → Type 0} (o : Read A) (f : A × Tokens → Read B)
    → IfRead P o → ((a : A) (mid : Tokens) → P a mid → IfRead Q (f (a, mid))) → IfRead Q (o >>= f)
then None f p k = nothing
then (Some x) f p k = k x.0 x.1 (p.holds x.0 x.1 refl)

-- a step that gives something, which the second part cites by its equation
pub given : {A B : Type 0} {Q : B → Tokens → Type 0} (o : Option A) (f : A → Read B)
    → ((a : A) → o ≡ Some a → IfRead Q (f a)) → IfRead Q (o >>= f)
given None f k = nothing
given (Some a) f k = k a refl

-- a choice by whether something is there
pub either : {A B : Type 0} {Q : B → Tokens → Type 0} (o : Option A) (y : Read B) (f : A → Read B)
    → (o ≡ None → IfRead Q y) → ((a : A) → o ≡ Some a → IfRead Q (f a)) → IfRead Q (on_some o y f)
either None y f n k = n refl
either (Some a) y f n k = k a refl

pub chosen : {A : Type 0} {Q : A → Tokens → Type 0} (b : Bool) (x y : Read A)
    → (b ≡ true → IfRead Q x) → (b ≡ false → IfRead Q y) → IfRead Q (cond b x y)
chosen true x y p q = p refl
chosen false x y p q = q refl

pub weaken : {A : Type 0} {P Q : A → Tokens → Type 0} {o : Read A} → ((a : A) (rest : Tokens) → P a rest → Q a rest) → IfRead P o → IfRead Q o
weaken f p = record { holds = λ a rest e. f a rest (p.holds a rest e) }

-- ---- single tokens

pub closes : (ts rest : Tokens) → close_at ts ≡ Some rest → ts ≡ k.Close ∷ rest
closes [] rest e = absurd cc
closes (k.Close ∷ ts) rest e = ap (λ x. k.Close ∷ x) (some_is e)
closes (_ ∷ ts) rest e = absurd cc

pub opens : (ts rest : Tokens) → open_at ts ≡ Some rest → ts ≡ k.Open ∷ rest
opens [] rest e = absurd cc
opens (k.Open ∷ ts) rest e = ap (λ x. k.Open ∷ x) (some_is e)
opens (_ ∷ ts) rest e = absurd cc

pub not_open : (ts : Tokens) → open_at ts ≡ None → NotOpen ts
not_open [] e = tt
not_open (k.Open ∷ ts) e = absurd cc
not_open (_ ∷ ts) e = tt

pub brackets : (ts rest : Tokens) → bracket_at ts ≡ Some rest → ts ≡ k.CloseBracket ∷ rest
brackets [] rest e = absurd cc
brackets (k.CloseBracket ∷ ts) rest e = ap (λ x. k.CloseBracket ∷ x) (some_is e)
brackets (_ ∷ ts) rest e = absurd cc

pub commas : (ts rest : Tokens) → comma_at ts ≡ Some rest → ts ≡ k.Comma ∷ rest
commas [] rest e = absurd cc
commas (k.Comma ∷ ts) rest e = ap (λ x. k.Comma ∷ x) (some_is e)
commas (_ ∷ ts) rest e = absurd cc

pub stars : (ts rest : Tokens) → star_at ts ≡ Some rest → ts ≡ k.Star ∷ rest
stars [] rest e = absurd cc
stars (k.Star ∷ ts) rest e = ap (λ x. k.Star ∷ x) (some_is e)
stars (_ ∷ ts) rest e = absurd cc

pub ands : (ts rest : Tokens) → and_at ts ≡ Some rest → ts ≡ k.And ∷ rest
ands [] rest e = absurd cc
ands (k.And ∷ ts) rest e = ap (λ x. k.And ∷ x) (some_is e)
ands (_ ∷ ts) rest e = absurd cc

pub ors : (ts rest : Tokens) → or_at ts ≡ Some rest → ts ≡ k.Or ∷ rest
ors [] rest e = absurd cc
ors (k.Or ∷ ts) rest e = ap (λ x. k.Or ∷ x) (some_is e)
ors (_ ∷ ts) rest e = absurd cc

pub quotes : (ts : Tokens) (w : List ℕ) (rest : Tokens) → quoted_at ts ≡ Some (w, rest) → ts ≡ k.Quoted w ∷ rest
quotes [] w rest e = absurd cc
quotes (k.Quoted v ∷ ts) w rest e = ap (λ (x : List ℕ × Tokens). k.Quoted x.0 ∷ x.1) (some_is e)
quotes (_ ∷ ts) w rest e = absurd cc

pub to_word : (ts rest : Tokens) → to_at ts ≡ Some rest → (text : List ℕ) × (ts ≡ k.Word w.To text ∷ rest)
to_word [] rest e = absurd cc
to_word (k.Word w.To text ∷ ts) rest e = (text, ap (λ x. k.Word w.To text ∷ x) (some_is e))
to_word (_ ∷ ts) rest e = absurd cc

pub is_word : (ts rest : Tokens) → is_at ts ≡ Some rest → (text : List ℕ) × (ts ≡ k.Word w.Is text ∷ rest)
is_word [] rest e = absurd cc
is_word (k.Word w.Is text ∷ ts) rest e = (text, ap (λ x. k.Word w.Is text ∷ x) (some_is e))
is_word (_ ∷ ts) rest e = absurd cc

pub unknown_word : (ts rest : Tokens) → unknown_at ts ≡ Some rest → (text : List ℕ) × (ts ≡ k.Word w.Unknown text ∷ rest)
unknown_word [] rest e = absurd cc
unknown_word (k.Word w.Unknown text ∷ ts) rest e = (text, ap (λ x. k.Word w.Unknown text ∷ x) (some_is e))
unknown_word (_ ∷ ts) rest e = absurd cc

pub with_word : (ts rest : Tokens) → with_at ts ≡ Some rest → (text : List ℕ) × (ts ≡ k.Word w.With text ∷ rest)
with_word [] rest e = absurd cc
with_word (k.Word w.With text ∷ ts) rest e = (text, ap (λ x. k.Word w.With text ∷ x) (some_is e))
with_word (_ ∷ ts) rest e = absurd cc

pub flag_word : (ts rest : Tokens) → flag_at ts ≡ Some rest → (text : List ℕ) × (ts ≡ k.Word w.Flag text ∷ rest)
flag_word [] rest e = absurd cc
flag_word (k.Word w.Flag text ∷ ts) rest e = (text, ap (λ x. k.Word w.Flag text ∷ x) (some_is e))
flag_word (_ ∷ ts) rest e = absurd cc

pub lax_word : (ts rest : Tokens) → lax_at ts ≡ Some rest → (text : List ℕ) × (ts ≡ k.Word w.Lax text ∷ rest)
lax_word [] rest e = absurd cc
lax_word (k.Word w.Lax text ∷ ts) rest e = (text, ap (λ x. k.Word w.Lax text ∷ x) (some_is e))
lax_word (_ ∷ ts) rest e = absurd cc

pub strict_word : (ts rest : Tokens) → strict_at ts ≡ Some rest → (text : List ℕ) × (ts ≡ k.Word w.Strict text ∷ rest)
strict_word [] rest e = absurd cc
strict_word (k.Word w.Strict text ∷ ts) rest e = (text, ap (λ x. k.Word w.Strict text ∷ x) (some_is e))
strict_word (_ ∷ ts) rest e = absurd cc

pub signs : (f : Token → Option Arith) (ts : Tokens) (s : Arith × Tokens) → sign_at f ts ≡ Some s → (t : Token) × (f t ≡ Some s.0) × (ts ≡ t ∷ s.1)
signs f [] s e = absurd cc
signs f (t ∷ ts) s e = go (f t) refl e
  where
    go : (o : Option Arith) → f t ≡ o → (o >>= λ op. Some (op, ts)) ≡ Some s → (u : Token) × (f u ≡ Some s.0) × (t ∷ ts ≡ u ∷ s.1)
    go None h e = absurd cc
    go (Some op) h e = (t, h ∙ ap (λ (x : Arith × Tokens). Some x.0) (some_is e), ap (λ (x : Arith × Tokens). t ∷ x.1) (some_is e))

pub quoted_reads : (ts : Tokens) → IfRead (λ w rest. ts ≡ k.Quoted w ∷ rest) (quoted_at ts)
quoted_reads ts = record { holds = λ w rest e. quotes ts w rest e }
