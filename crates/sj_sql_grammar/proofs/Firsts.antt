-- The first of some marks that is of a kind, where a function tells what each is.
use Rattle.std.proofs.Common.{◌≡◌, List, [], ◌∷◌, Option, Some, None, refl, sym, ap, ◌∙◌}
use Rattle.sj_sql_grammar.specs.Answers.{Mark, Free, none, more, First, here, later}

-- the one, and else the other
abbrev pub or_opt : {A : Type 0} → Option A → Option A → Option A
or_opt None y = y
or_opt (Some x) y = Some x

pub or_none : {A : Type 0} (x : Option A) → or_opt x None ≡ x
or_none None = refl
or_none (Some x) = refl

pub or_assoc : {A : Type 0} (x y z : Option A) → or_opt (or_opt x y) z ≡ or_opt x (or_opt y z)
or_assoc None y z = refl
or_assoc (Some x) y z = refl

pub none_some : {A : Type 0} {x : A} → None ≡ Some x → ⊥
none_some q = cc

abbrev pub first : {A : Type 0} → (Mark → Option A) → List Mark → Option A
first of [] = None
first of (m ∷ ms) = or_opt (of m) (first of ms)

module _ {A : Type 0} (of : Mark → Option A) (Is : Mark → A → Type 0) (tells : (m : Mark) (x : A) → of m ≡ Some x → Is m x) (told : (m : Mark) (x : A) → Is m x → of m ≡ Some x) where
  behind : (m : Mark) (ms : List Mark) (o : Option A) → of m ≡ o → first of (m ∷ ms) ≡ or_opt o (first of ms)
  behind m ms o e = ap (λ (p : Option A). or_opt p (first of ms)) e

  pub free_first : {ms : List Mark} → Free Is ms → first of ms ≡ None
  free_first none = refl
  free_first (more {m = m} {ms = ms} other rest) = go (of m) refl (free_first rest)
    where
      go : (o : Option A) → of m ≡ o → first of ms ≡ None → first of (m ∷ ms) ≡ None
      go None e others = behind m ms None e ∙ others
      go (Some x) e others = absurd (other x (tells m x e))

  pub first_free : (ms : List Mark) → first of ms ≡ None → Free Is ms
  first_free [] h = none
  first_free (m ∷ ms) h = go (of m) refl (λ q. first_free ms q)
    where
      go : (o : Option A) → of m ≡ o → (first of ms ≡ None → Free Is ms) → Free Is (m ∷ ms)
      go None e others = more (λ x i. none_some (sym e ∙ told m x i)) (others (sym (behind m ms None e) ∙ h))
      go (Some x) e others = absurd (none_some (sym h ∙ behind m ms (Some x) e))

  pub is_first : {ms : List Mark} {x : A} → First Is ms x → first of ms ≡ Some x
  is_first (here {m = m} {ms = ms} {x = x} i) = behind m ms (Some x) (told m x i)
  is_first (later {m = m} {ms = ms} {x = x} other rest) = go (of m) refl (is_first rest)
    where
      go : (o : Option A) → of m ≡ o → first of ms ≡ Some x → first of (m ∷ ms) ≡ Some x
      go None e others = behind m ms None e ∙ others
      go (Some y) e others = absurd (other y (tells m y e))

  pub first_is : (ms : List Mark) (x : A) → first of ms ≡ Some x → First Is ms x
  first_is [] x h = absurd (none_some h)
  first_is (m ∷ ms) x h = go (of m) refl (λ q. first_is ms x q)
    where
      go : (o : Option A) → of m ≡ o → (first of ms ≡ Some x → First Is ms x) → First Is (m ∷ ms) x
      go None e others = later (λ y i. none_some (sym e ∙ told m y i)) (others (sym (behind m ms None e) ∙ h))
      go (Some y) e others = let same : Some y ≡ Some x = sym (behind m ms (Some y) e) ∙ h in here (tells m x (e ∙ same))
