-- Lists as contracts see them.
use Rattle.std.proofs.Common.{◌≡◌, ◌↔◌, ℕ, suc, List, [], ◌∷◌, length, map, Option, Some, None, IsTrue, IsSomeAnd, slice_get, option_map, false, refl, sym, ap, ◌∙◌, subst}
use Rattle.std.proofs.lemmas.Option.{slice_get-map}
use Rattle.sj_bound.specs.declared.bound.BoundColumn.{BoundColumn}
use Rattle.sj_bound.specs.declared.bound.BoundItem.{BoundItem}
use Rattle.sj_bound.specs.View.{item_of, items_of, column_of, columns_of}

pub length-items_of : (xs : List BoundItem) → length (items_of xs) ≡ length xs
length-items_of [] = refl
length-items_of (x ∷ xs) = ap (λ n. suc n) (length-items_of xs)

items_mapped : (xs : List BoundItem) → items_of xs ≡ map item_of xs
items_mapped [] = refl
items_mapped (x ∷ xs) = ap (λ l. item_of x ∷ l) (items_mapped xs)

columns_mapped : (xs : List BoundColumn) → columns_of xs ≡ map column_of xs
columns_mapped [] = refl
columns_mapped (x ∷ xs) = ap (λ l. column_of x ∷ l) (columns_mapped xs)

-- what stands at a place, as contracts see it
pub item_at : (xs : List BoundItem) (n : ℕ) (found : Option BoundItem) → found ≡ slice_get xs n → slice_get (items_of xs) n ≡ option_map item_of found
item_at xs n found is = ap (λ l. slice_get l n) (items_mapped xs) ∙ slice_get-map item_of xs n ∙ ap (option_map item_of) (sym is)

pub column_at : (xs : List BoundColumn) (n : ℕ) (found : Option BoundColumn) → found ≡ slice_get xs n → slice_get (columns_of xs) n ≡ option_map column_of found
column_at xs n found is = ap (λ l. slice_get l n) (columns_mapped xs) ∙ slice_get-map column_of xs n ∙ ap (option_map column_of) (sym is)

-- an answer about what stands there is one about the place
pub some_is : {X : Type 0} (P : X → Type 0) (answer : _) (place : Option X) (x : X) → place ≡ Some x → IsTrue answer ↔ P x → IsTrue answer ↔ IsSomeAnd place P
some_is P answer place x is h = subst (λ o. IsTrue answer ↔ IsSomeAnd o P) (sym is) h

pub none_is : {X : Type 0} (P : X → Type 0) (place : Option X) → place ≡ None → IsTrue false ↔ IsSomeAnd place P
none_is P place is = subst (λ o. IsTrue false ↔ IsSomeAnd o P) (sym is) (λ e. cc, λ h. absurd h)
