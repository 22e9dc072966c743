-- Lists that are made one by one.
use Rattle.std.proofs.Common.{◌≡◌, ℕ, ◌+◌, ◌<◌, List, [], ◌∷◌, ◌++◌, length, take, map, get_or, sym, ◌∙◌, ap}
use Rattle.std.proofs.lemmas.List.{map-append, take_more}

-- one more of them
pub one_more : {A : Type 0} (f : A → ℕ) (xs : List A) (i : ℕ) (d x : A) (made new : List ℕ) (y : ℕ) → i < length xs → made ≡ map f (take i xs) → x ≡ get_or xs i d → y ≡ f x → new ≡ made ++ y ∷ [] → new ≡ map f (take (i + 1) xs)
one_more f xs i d x made new y within so_far here is grown =
    grown ∙ ap (λ (l : List ℕ). l ++ y ∷ []) so_far ∙ ap (λ (n : ℕ). map f (take i xs) ++ n ∷ []) (is ∙ ap f here)
    ∙ sym (map-append f (take i xs) (get_or xs i d ∷ [])) ∙ ap (map f) (sym (take_more xs i d within))
