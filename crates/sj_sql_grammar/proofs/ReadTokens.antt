-- What was read meets a fact, and how that follows step by step.
use Rattle.std.proofs.Common.{◌≡◌, ℕ, Bool, true, false, cond, List, [], ◌∷◌, Option, Some, None, refl, sym, ap, subst, ◌∙◌}
use Rattle.sj_base.specs.Options.{◌>>=◌}
use Rattle.sj_sql_token.specs.declared.token.Token.TheVariants as k
use Rattle.sj_sql_token.specs.declared.keyword.Keyword.{Keyword}
use Rattle.sj_sql_token.specs.Same.{same}
use Rattle.sj_sql_token.proofs.Keywords.{same_is}
use Rattle.sj_sql_grammar.specs.Phrases.{Tokens, if_some, word}

-- what is there, if anything is, meets P
pub record If {B : Type 0} (P : B → Type 0) (o : Option B) : Type 0 where
  pub holds : (b : B) → o ≡ Some b → P b

pub some_is : {A : Type 0} {a b : A} → Some a ≡ Some b → a ≡ b
some_is e = cc

pub nothing : {B : Type 0} {P : B → Type 0} → If P None
nothing = record { holds = λ b e. absurd cc }

pub here : {B : Type 0} {P : B → Type 0} {b : B} → P b → If P (Some b)
here {B} {P} p = record { holds = λ c e. subst P (some_is e) p }

-- one step after another
pub then : {A B : Type 0} {P : A → Type 0} {Q : B → Type 0} (o : Option A) (f : A → Option B) → If P o → ((a : A) → P a → If Q (f a)) → If Q (o >>= f)
then None f p q = nothing
then (Some a) f p q = q a (p.holds a refl)

-- a step that the second part cites by its equation
pub given : {A B : Type 0} {Q : B → Type 0} (o : Option A) (f : A → Option B) → ((a : A) → o ≡ Some a → If Q (f a)) → If Q (o >>= f)
given None f q = nothing
given (Some a) f q = q a refl

-- a choice by whether something is there
pub either : {A B : Type 0} {Q : B → Type 0} (o : Option A) (f : A → Option B) (y : Option B) → ((a : A) → o ≡ Some a → If Q (f a)) → (o ≡ None → If Q y) → If Q (if_some o f y)
either None f y q n = n refl
either (Some a) f y q n = q a refl

pub chosen : {B : Type 0} {Q : B → Type 0} (b : Bool) (x y : Option B) → (b ≡ true → If Q x) → (b ≡ false → If Q y) → If Q (cond b x y)
chosen true x y p q = p refl
chosen false x y p q = q refl

pub weaken : {B : Type 0} {P Q : B → Type 0} {o : Option B} → ((b : B) → P b → Q b) → If P o → If Q o
weaken f p = record { holds = λ b e. f b (p.holds b e) }

-- ---- equations

pub bind_is : {A B : Type 0} {x : A} {r : Option B} (o : Option A) (f : A → Option B) → o ≡ Some x → f x ≡ r → (o >>= f) ≡ r
bind_is o f e h = ap (λ p. p >>= f) e ∙ h

pub bind_none : {A B : Type 0} (o : Option A) (f : A → Option B) → o ≡ None → (o >>= f) ≡ None
bind_none o f e = ap (λ p. p >>= f) e

pub some_on : {A B : Type 0} {x : A} {r : B} (o : Option A) (f : A → B) (y : B) → o ≡ Some x → f x ≡ r → if_some o f y ≡ r
some_on o f y e h = ap (λ p. if_some p f y) e ∙ h

pub none_on : {A B : Type 0} {r : B} (o : Option A) (f : A → B) (y : B) → o ≡ None → y ≡ r → if_some o f y ≡ r
none_on o f y e h = ap (λ p. if_some p f y) e ∙ h

pub cond_on : {A : Type 0} {r : A} (b : Bool) (x y : A) → b ≡ true → x ≡ r → cond b x y ≡ r
cond_on b x y e h = ap (λ p. cond p x y) e ∙ h

pub cond_off : {A : Type 0} {r : A} (b : Bool) (x y : A) → b ≡ false → y ≡ r → cond b x y ≡ r
cond_off b x y e h = ap (λ p. cond p x y) e ∙ h

-- ---- words

-- a word that stands there is the first token
pub said : (Q : Tokens → Type 0) (v : Keyword) (ts rest : Tokens) → word v ts ≡ Some rest → ((text : List ℕ) → Q (k.Word v text ∷ rest)) → Q ts
said Q v [] rest e q = absurd cc
said Q v (k.Word u text ∷ ts) rest e q = go (same u v) refl e
  where
    go : (b : Bool) → same u v ≡ b → cond b (Some ts) None ≡ Some rest → Q (k.Word u text ∷ ts)
    go true h e = subst (λ x. Q (k.Word u text ∷ x)) (sym (some_is e)) (subst (λ x. Q (k.Word x text ∷ rest)) (sym (same_is u v h)) (q text))
    go false h e = absurd cc
said Q v (k.Open ∷ ts) rest e q = absurd cc
said Q v (k.Close ∷ ts) rest e q = absurd cc
said Q v (k.Comma ∷ ts) rest e q = absurd cc
said Q v (k.Semicolon ∷ ts) rest e q = absurd cc
said Q v (k.Colon ∷ ts) rest e q = absurd cc
said Q v (k.Star ∷ ts) rest e q = absurd cc
said Q v (k.Plus ∷ ts) rest e q = absurd cc
said Q v (k.Minus ∷ ts) rest e q = absurd cc
said Q v (k.Quoted x ∷ ts) rest e q = absurd cc
said Q v (k.String x ∷ ts) rest e q = absurd cc
said Q v (k.Whole x ∷ ts) rest e q = absurd cc
said Q v (k.Fraction x ∷ ts) rest e q = absurd cc
