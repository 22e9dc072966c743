-- Names that stand twice in a list that grows.
use Rattle.std.proofs.Common.{◌≡◌, ℕ, Bool, true, false, not, ◌||◌, if◌then◌else◌, List, map, [], ◌∷◌, ◌++◌, refl, sym, ap, ◌∙◌, append_assoc}
use Rattle.std.specs.Borrow.{Bor}
use Rattle.std.specs.List.{list_any}
use Rattle.std.specs.Str.{bytes_eq}
use Rattle.std.proofs.lemmas.List.{map-append}
use Rattle.std.proofs.lemmas.List.Folds.{list_any-append}
use Rattle.std.proofs.lemmas.Slice.Eq.{bytes_eq-Decides}
use Rattle.sj_bind.specs.Tables.{has_twice}
use Rattle.sj_bind.proofs.Lists.{any_mapped, neither}

pub bytes_eq-sym : (xs ys : List ℕ) → bytes_eq xs ys ≡ bytes_eq ys xs
bytes_eq-sym xs ys = go (bytes_eq xs ys) (bytes_eq ys xs) (bytes_eq-Decides xs ys) (bytes_eq-Decides ys xs)
  where
    go : (b c : Bool) → (b ≡ true → xs ≡ ys) × (xs ≡ ys → b ≡ true) → (c ≡ true → ys ≡ xs) × (ys ≡ xs → c ≡ true) → b ≡ c
    go true true f g = refl
    go true false f g = sym (g.1 (sym (f.0 refl)))
    go false true f g = f.1 (sym (g.0 refl))
    go false false f g = refl

-- what stands twice stands twice in a longer list
pub has_twice-more : (xs ys : List (List ℕ)) → has_twice xs ≡ true → has_twice (xs ++ ys) ≡ true
has_twice-more [] ys h = cc
has_twice-more (x ∷ xs) ys h = go (list_any (bytes_eq x) xs) h (list_any-append (bytes_eq x) xs ys) (has_twice-more xs ys)
  where
    go : (b : Bool) → (b || has_twice xs) ≡ true → list_any (bytes_eq x) (xs ++ ys) ≡ (b || list_any (bytes_eq x) ys) → (has_twice xs ≡ true → has_twice (xs ++ ys) ≡ true)
        → (list_any (bytes_eq x) (xs ++ ys) || has_twice (xs ++ ys)) ≡ true
    go true e a f = ap (λ z. z || has_twice (xs ++ ys)) a
    go false e a f = either (list_any (bytes_eq x) (xs ++ ys)) (f e)
      where
        either : (c : Bool) → has_twice (xs ++ ys) ≡ true → (c || has_twice (xs ++ ys)) ≡ true
        either true h = refl
        either false h = h

pub twice-right : (xs ys : List (List ℕ)) → has_twice (xs ++ ys) ≡ false → has_twice ys ≡ false
twice-right [] ys h = h
twice-right (x ∷ xs) ys h = twice-right xs ys (neither (list_any (bytes_eq x) (xs ++ ys)) (has_twice (xs ++ ys)) h).1

shuffled : (a e t c : Bool) → ((a || (e || false)) || (t || c)) ≡ ((a || t) || (e || c))
shuffled true e t c = refl
shuffled false true true c = refl
shuffled false true false c = refl
shuffled false false t c = refl

-- one name more, which may have stood there
pub has_twice-push : (xs : List (List ℕ)) (n : List ℕ) → has_twice (xs ++ n ∷ []) ≡ (has_twice xs || list_any (bytes_eq n) xs)
has_twice-push [] n = refl
has_twice-push (x ∷ xs) n =
    ap (λ z. z || has_twice (xs ++ n ∷ [])) (list_any-append (bytes_eq x) xs (n ∷ []) ∙ ap (λ z. list_any (bytes_eq x) xs || (z || false)) (bytes_eq-sym x n))
    ∙ ap (λ z. (list_any (bytes_eq x) xs || (bytes_eq n x || false)) || z) (has_twice-push xs n)
    ∙ shuffled (list_any (bytes_eq x) xs) (bytes_eq n x) (has_twice xs) (list_any (bytes_eq n) xs)

pub twice_within : (xs ys zs : List (List ℕ)) → has_twice (xs ++ ys) ≡ true → has_twice (xs ++ (ys ++ zs)) ≡ true
twice_within xs ys zs h = ap has_twice (sym (append_assoc xs ys zs)) ∙ has_twice-more (xs ++ ys) zs h

pub twice_from : (xs : List (List ℕ)) (name : List ℕ) (zs : List (List ℕ)) → has_twice (xs ++ name ∷ []) ≡ true → has_twice (xs ++ name ∷ zs) ≡ true
twice_from xs name zs h = twice_within xs (name ∷ []) zs h

-- A set of names took one.
pub noted_key : (keys after : List (Bor (List ℕ))) (name : Bor (List ℕ)) (added : Bool) → has_twice (map (λ k. k.now) keys) ≡ false
    → added ≡ not (list_any (λ k. bytes_eq name.now k.now) keys) → after ≡ (if list_any (λ k. bytes_eq name.now k.now) keys then keys else keys ++ name ∷ [])
    → (not added ≡ has_twice (map (λ k. k.now) keys ++ name.now ∷ [])) × (not added ≡ false → map (λ k. k.now) after ≡ map (λ k. k.now) keys ++ name.now ∷ [])
noted_key keys after name added once a e = (
  twice (list_any (λ k. bytes_eq name.now k.now) keys) added a (has_twice-push (map (λ k. k.now) keys) name.now
      ∙ ap (λ z. z || list_any (bytes_eq name.now) (map (λ k. k.now) keys)) once ∙ any_mapped (bytes_eq name.now) (λ (k : Bor (List ℕ)). k.now) keys),
  λ new. ap (λ (z : List (Bor (List ℕ))). map (λ k. k.now) z) (e ∙ ap (λ z. if z then keys else keys ++ name ∷ []) (unknown (list_any (λ k. bytes_eq name.now k.now) keys) added a new))
      ∙ map-append (λ (k : Bor (List ℕ)). k.now) keys (name ∷ []),
)
  where
    twice : (known added : Bool) → added ≡ not known → has_twice (map (λ k. k.now) keys ++ name.now ∷ []) ≡ known → not added ≡ has_twice (map (λ k. k.now) keys ++ name.now ∷ [])
    twice true added a h = ap not a ∙ sym h
    twice false added a h = ap not a ∙ sym h

    unknown : (known added : Bool) → added ≡ not known → not added ≡ false → known ≡ false
    unknown true added a h = sym (ap not a) ∙ h
    unknown false added a h = refl
