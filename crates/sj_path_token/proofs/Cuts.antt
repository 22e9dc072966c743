-- What was read at the front of a text meets a fact, and how that follows step by step.
use Rattle.std.proofs.Common.{◌≡◌, ℕ, Bool, true, false, cond, Option, Some, None, refl, ap, subst, ◌∙◌}
use Rattle.sj_base.specs.Options.{◌>>=◌}

-- what was read, if anything was, meets P
pub record IfCut {A : Type 0} (P : A → ℕ → Type 0) (o : Option (A × ℕ)) : Type 0 where
  pub holds : (a : A) (n : ℕ) → o ≡ Some (a, n) → P a n

pub nothing : {A : Type 0} {P : A → ℕ → Type 0} → IfCut P None
nothing = record { holds = λ a n e. absurd cc }

pub some_is : {A : Type 0} {a b : A} → Some a ≡ Some b → a ≡ b
some_is e = cc

pub here : {A : Type 0} {P : A → ℕ → Type 0} {a : A} {n : ℕ} → P a n → IfCut P (Some (a, n))
here {A} {P} p = record { holds = λ b m e. subst (λ (x : A × ℕ). P x.0 x.1) (some_is e) p }

pub then : {A B : Type 0} {P : A → ℕ → Type 0} {Q : B → ℕ → Type 0} (o : Option (A × ℕ)) (f : A × ℕ → Option (B × ℕ))
    → IfCut P o → ((a : A) (n : ℕ) → o ≡ Some (a, n) → P a n → IfCut Q (f (a, n))) → IfCut Q (o >>= f)
then None f p k = nothing
then (Some x) f p k = k x.0 x.1 refl (p.holds x.0 x.1 refl)

-- a step that gives something, which the second part cites by its equation
pub given : {A B : Type 0} {Q : B → ℕ → Type 0} (o : Option A) (f : A → Option (B × ℕ)) → ((a : A) → o ≡ Some a → IfCut Q (f a)) → IfCut Q (o >>= f)
given None f k = nothing
given (Some a) f k = k a refl

pub chosen : {A : Type 0} {Q : A → ℕ → Type 0} (b : Bool) (x y : Option (A × ℕ)) → (b ≡ true → IfCut Q x) → (b ≡ false → IfCut Q y) → IfCut Q (cond b x y)
chosen true x y p q = p refl
chosen false x y p q = q refl

pub bind_is : {A B : Type 0} {x : A} {r : Option B} (o : Option A) (f : A → Option B) → o ≡ Some x → f x ≡ r → (o >>= f) ≡ r
bind_is o f e h = ap (λ p. p >>= f) e ∙ h

pub bind_none : {A B : Type 0} (o : Option A) (f : A → Option B) → o ≡ None → (o >>= f) ≡ None
bind_none o f e = ap (λ p. p >>= f) e

pub cond_on : {A : Type 0} {r : A} (b : Bool) (x y : A) → b ≡ true → x ≡ r → cond b x y ≡ r
cond_on b x y e h = ap (λ p. cond p x y) e ∙ h

pub cond_off : {A : Type 0} {r : A} (b : Bool) (x y : A) → b ≡ false → y ≡ r → cond b x y ≡ r
cond_off b x y e h = ap (λ p. cond p x y) e ∙ h
