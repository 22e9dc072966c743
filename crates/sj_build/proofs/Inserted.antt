-- A key that comes into a set of keys.
use Rattle.std.proofs.Common.{◌≡◌, ℕ, Bool, true, false, not, ◌||◌, if◌then◌else◌, List, map, [], ◌∷◌, ◌++◌, refl, sym, ap, ◌∙◌}
use Rattle.std.proofs.lemmas.List.{map-append}
use Rattle.std.specs.List.{list_any}
use Rattle.std.specs.Str.{bytes_eq}
use Rattle.sj_base.specs.Names.{is_among}

-- keys that are seen by their texts
module _ {K : Type 0} (text : K → List ℕ) where
  among : (keys : List K) (name : List ℕ) → list_any (λ key. bytes_eq name (text key)) keys ≡ is_among (map text keys) name
  among [] name = refl
  among (key ∷ keys) name = ap (λ b. bytes_eq name (text key) || b) (among keys name)

  -- whether it was new
  pub inserted_is_new : (keys : List K) (key : K) (name : List ℕ) (new : Bool) → text key ≡ name → new ≡ not (list_any (λ k. bytes_eq (text key) (text k)) keys)
      → new ≡ not (is_among (map text keys) name)
  inserted_is_new keys key name new is e = e ∙ ap not (among keys (text key) ∙ ap (is_among (map text keys)) is)

  -- a new one stands last
  pub inserted_last : (keys after : List K) (key : K) (name : List ℕ) (new : Bool) → text key ≡ name → new ≡ not (list_any (λ k. bytes_eq (text key) (text k)) keys)
      → after ≡ (if list_any (λ k. bytes_eq (text key) (text k)) keys then keys else keys ++ key ∷ []) → new ≡ true → map text after ≡ map text keys ++ name ∷ []
  inserted_last keys after key name new is e f t = go (list_any (λ k. bytes_eq (text key) (text k)) keys) (sym e ∙ t) f
    where
      go : (b : Bool) → not b ≡ true → after ≡ (if b then keys else keys ++ key ∷ []) → map text after ≡ map text keys ++ name ∷ []
      go true n g = absurd cc
      go false n g = ap (map text) g ∙ map-append text keys (key ∷ []) ∙ ap (λ t. map text keys ++ t ∷ []) is

  -- and one that is there already changes nothing
  pub inserted_again : (keys after : List K) (key : K) (new : Bool) → new ≡ not (list_any (λ k. bytes_eq (text key) (text k)) keys)
      → after ≡ (if list_any (λ k. bytes_eq (text key) (text k)) keys then keys else keys ++ key ∷ []) → new ≡ false → map text after ≡ map text keys
  inserted_again keys after key new e f t = go (list_any (λ k. bytes_eq (text key) (text k)) keys) (sym e ∙ t) f
    where
      go : (b : Bool) → not b ≡ false → after ≡ (if b then keys else keys ++ key ∷ []) → map text after ≡ map text keys
      go true n g = ap (map text) g
      go false n g = absurd cc
