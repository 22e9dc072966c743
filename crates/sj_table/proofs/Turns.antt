-- A loop over what is left of an element at hand, w, and the elements of an input, t, each replaced by what g makes of it, which may
-- take what f says.
use Rattle.std.proofs.Common.{◌≡◌, ℕ, ◌+◌, ◌<◌, ap, sym, subst, ◌∙◌, refl, arith}
use Rattle.sj_table.specs.Series.{Series, chain, each, sum_over, size}
use Rattle.sj_table.specs.Takes.{Takes, Approaches, Spends}
use Rattle.sj_table.specs.declared.pull.RowPull.{RowPull}
use Rattle.sj_table.specs.declared.pull.RowPull.TheVariants as pulls

-- the element at hand answers
pub answer_at_hand : {A : Type 0} (t0 w w' t : Series A) (r : RowPull) (x : A) (d0 wd wd' td a b c : ℕ)
    → Approaches t0 d0 a (chain w t) (wd + td) b → (r ≡ pulls.End → ⊥) → Takes w wd r x w' wd' b c → Takes t0 d0 r x (chain w' t) (wd' + td) a c
answer_at_hand t0 w w' t pulls.Row x d0 wd wd' td a b c n other k = record {
  answers = sym n.same ∙ ap (λ v. chain v t) k.answers;
  spends = record { falls = omega (arith, n.spends.falls, k.spends.falls); costs = omega (arith, n.spends.falls, n.spends.costs, k.spends.falls, k.spends.costs) };
}
answer_at_hand t0 w w' t pulls.End x d0 wd wd' td a b c n other k = absurd (other refl)
answer_at_hand t0 w w' t (pulls.Raised s) x d0 wd wd' td a b c n other k = record {
  answers = sym n.same ∙ ap (λ v. chain v t) k.answers;
  spends = record { falls = omega arith; costs = omega (arith, n.spends.falls, n.spends.costs, k.spends.falls, k.spends.costs) };
}

-- ---- what is spent

spends_then : (d d' d'' a b c : ℕ) → Spends d d' a b → Spends d' d'' b c → Spends d d'' a c
spends_then d d' d'' a b c p q = record { falls = omega (arith, p.falls, q.falls); costs = omega (arith, p.falls, p.costs, q.falls, q.costs) }

spends_all : (d r a b : ℕ) → Spends d 0 a b → Spends (d + r) r a b
spends_all d r a b p = record { falls = omega arith; costs = omega (arith, p.falls, p.costs) }

spends_some : (d d' r a b : ℕ) → Spends d d' a b → Spends (d + r) (d' + r) a b
spends_some d d' r a b p = record { falls = omega (arith, p.falls); costs = omega (arith, p.falls, p.costs) }

spends_over : (d r a b : ℕ) → Spends d 0 a b → Spends (d + r) 0 a b
spends_over d r a b p = record { falls = omega arith; costs = omega (arith, p.falls, p.costs) }

-- ---- the element at hand is at its end

module _ {A B : Type 0} (t0 w w' : Series B) (t t' : Series A) (g : A → Series B) (f : A → ℕ) (y : B) (d0 wd wd' td td' a b c e : ℕ)
    (n : Approaches t0 d0 a (chain w (each t g)) (wd + (td + sum_over t f)) b) (k : Takes w wd pulls.End y w' wd' b c) where
  to_input : Spends d0 (td + sum_over t f) a c
  to_input = spends_then _ _ _ _ _ _ n.spends (spends_all _ _ _ _ k.spends)

  -- the input gives the next one, which is taken in hand
  pub next_at_hand : (v : Series B) (x : A) (vd : ℕ) → Takes t td pulls.Row x t' td' c e → v ≡ g x → vd ≡ f x
      → Approaches t0 d0 a (chain v (each t' g)) (vd + (td' + sum_over t' f)) e
  next_at_hand v x vd p is due =
      let sum : sum_over t f ≡ f x + sum_over t' f = ap (λ u. sum_over u f) p.answers in
      let left : td' + sum_over t f ≡ vd + (td' + sum_over t' f) = omega (arith, sum, due) in
      record {
        same = ap (λ u. chain u (each t' g)) is ∙ sym (ap (λ u. each u g) p.answers) ∙ sym (ap (λ u. chain u (each t g)) k.answers) ∙ n.same;
        spends = subst (λ m. Spends d0 m a e) left (spends_then _ _ _ _ _ _ to_input (spends_some _ _ _ _ _ p.spends));
      }

  -- the input is at its end
  pub answer_of_input : (r : RowPull) (x : A) (z : B) (u : Series B) (ud : ℕ) → (r ≡ pulls.Row → ⊥) → Takes t td r x t' td' c e → Takes t0 d0 r z u ud a e
  answer_of_input pulls.Row x z u ud other p = absurd (other refl)
  answer_of_input pulls.End x z u ud other p = record {
    answers = sym n.same ∙ ap (λ v. chain v (each t g)) k.answers ∙ ap (λ v. each v g) p.answers;
    spends = spends_then _ _ _ _ _ _ to_input (spends_over _ _ _ _ p.spends);
  }
  answer_of_input (pulls.Raised s) x z u ud other p = record {
    answers = sym n.same ∙ ap (λ v. chain v (each t g)) k.answers ∙ ap (λ v. each v g) p.answers;
    spends = spends_then _ _ _ _ _ _ to_input (spends_over _ _ _ _ p.spends);
  }

-- an element that the input gives is one fewer
pub one_fewer : {A : Type 0} (t t' : Series A) (x : A) (d d' a b : ℕ) → Takes t d pulls.Row x t' d' a b → size t' < size t
one_fewer t t' x d d' a b p = omega (arith, ap size p.answers)
