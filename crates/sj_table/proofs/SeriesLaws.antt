-- Laws of series.
use Rattle.std.proofs.Common.{◌≡◌, ◌≤◌, ℕ, ◌+◌, ◌∷◌, ◌++◌, None, Some, ap, sym, ◌∙◌, refl, arith}
use Rattle.sj_base.specs.declared.state.State.{State}
use Rattle.sj_table.specs.Series.{Series, done, raises, more, elements, end_of, chain, each, sum_over, size}

-- ---- one series behind another

pub chain-done : {A : Type 0} (xs : Series A) → chain xs done ≡ xs
chain-done done = refl
chain-done (raises s) = refl
chain-done (more x xs) = ap (more x) (chain-done xs)

pub chain_assoc : {A : Type 0} (xs ys zs : Series A) → chain (chain xs ys) zs ≡ chain xs (chain ys zs)
chain_assoc done ys zs = refl
chain_assoc (raises s) ys zs = refl
chain_assoc (more x xs) ys zs = ap (more x) (chain_assoc xs ys zs)

-- nothing follows a state
pub chain_raised : {A : Type 0} (xs ys : Series A) (s : State) → end_of xs ≡ Some s → chain xs ys ≡ xs
chain_raised done ys s e = cc
chain_raised (raises r) ys s e = refl
chain_raised (more x xs) ys s e = ap (more x) (chain_raised xs ys s e)

pub elements-chain : {A : Type 0} (xs ys : Series A) → end_of xs ≡ None → elements (chain xs ys) ≡ elements xs ++ elements ys
elements-chain done ys e = refl
elements-chain (raises s) ys e = cc
elements-chain (more x xs) ys e = ap (λ zs. x ∷ zs) (elements-chain xs ys e)

pub end_of-chain : {A : Type 0} (xs ys : Series A) → end_of xs ≡ None → end_of (chain xs ys) ≡ end_of ys
end_of-chain done ys e = refl
end_of-chain (raises s) ys e = cc
end_of-chain (more x xs) ys e = end_of-chain xs ys e

pub size-chain : {A : Type 0} (xs ys : Series A) → end_of xs ≡ None → size (chain xs ys) ≡ size xs + size ys
size-chain done ys e = omega arith
size-chain (raises s) ys e = cc
size-chain (more x xs) ys e = omega (arith, size-chain xs ys e)

-- ---- each element replaced

pub each-chain : {A B : Type 0} (xs ys : Series A) (g : A → Series B) → each (chain xs ys) g ≡ chain (each xs g) (each ys g)
each-chain done ys g = refl
each-chain (raises s) ys g = refl
each-chain (more x xs) ys g = ap (chain (g x)) (each-chain xs ys g) ∙ sym (chain_assoc (g x) (each xs g) (each ys g))

pub each-each : {A B C : Type 0} (xs : Series A) (g : A → Series B) (h : B → Series C) → each (each xs g) h ≡ each xs (λ x. each (g x) h)
each-each done g h = refl
each-each (raises s) g h = refl
each-each (more x xs) g h = each-chain (g x) (each xs g) h ∙ ap (chain (each (g x) h)) (each-each xs g h)

-- by itself
pub each-alone : {A : Type 0} (xs : Series A) → each xs (λ x. more x done) ≡ xs
each-alone done = refl
each-alone (raises s) = refl
each-alone (more x xs) = ap (more x) (each-alone xs)

-- by what is the same for each
pub each_alike : {A B : Type 0} (xs : Series A) (g h : A → Series B) → ((x : A) → g x ≡ h x) → each xs g ≡ each xs h
each_alike done g h e = refl
each_alike (raises s) g h e = refl
each_alike (more x xs) g h e = ap (λ ys. chain ys (each xs g)) (e x) ∙ ap (chain (h x)) (each_alike xs g h e)

-- ---- numbers added up

pub sum_over-chain : {A : Type 0} (xs ys : Series A) (f : A → ℕ) → end_of xs ≡ None → sum_over (chain xs ys) f ≡ sum_over xs f + sum_over ys f
sum_over-chain done ys f e = omega arith
sum_over-chain (raises s) ys f e = cc
sum_over-chain (more x xs) ys f e = omega (arith, sum_over-chain xs ys f e)

-- nothing is added up behind a state
pub sum_over_chained : {A : Type 0} (xs ys : Series A) (f : A → ℕ) → sum_over (chain xs ys) f ≤ sum_over xs f + sum_over ys f
sum_over_chained done ys f = omega arith
sum_over_chained (raises s) ys f = omega arith
sum_over_chained (more x xs) ys f = omega (arith, sum_over_chained xs ys f)

pub sum_over_each : {A B : Type 0} (xs : Series A) (g : A → Series B) (f : B → ℕ) → sum_over (each xs g) f ≤ sum_over xs (λ x. sum_over (g x) f)
sum_over_each done g f = omega arith
sum_over_each (raises s) g f = omega arith
sum_over_each (more x xs) g f = omega (arith, sum_over_chained (g x) (each xs g) f, sum_over_each xs g f)

pub sum_over_alike : {A : Type 0} (xs : Series A) (f g : A → ℕ) → ((x : A) → f x ≡ g x) → sum_over xs f ≡ sum_over xs g
sum_over_alike done f g e = refl
sum_over_alike (raises s) f g e = refl
sum_over_alike (more x xs) f g e = omega (arith, e x, sum_over_alike xs f g e)

pub sum_over_added : {A : Type 0} (xs : Series A) (f g : A → ℕ) → sum_over xs (λ x. f x + g x) ≡ sum_over xs f + sum_over xs g
sum_over_added done f g = omega arith
sum_over_added (raises s) f g = omega arith
sum_over_added (more x xs) f g = omega (arith, sum_over_added xs f g)
