-- Texts that grow by one element after another.
use Rattle.std.specs.Prelude.{◌≡◌, ℕ, List, [], ◌∷◌, ◌++◌}
use Rattle.sj_text.specs.declared.place.Place.{Place}
use Rattle.sj_text.specs.declared.place.Place.TheVariants.{First, Later}

-- the place behind these elements
abbrev pub place_behind : {X : Type 0} → List X → Place
place_behind [] = First
place_behind (x ∷ xs) = Later

-- the opening bracket, where there is no text yet
abbrev pub opening : List ℕ → List ℕ → List ℕ
opening bracket [] = bracket
opening bracket (x ∷ xs) = []

-- both brackets in place of no text
abbrev pub opened : List ℕ → List ℕ → List ℕ
opened brackets [] = brackets
opened brackets (x ∷ xs) = x ∷ xs

-- the old bytes stand first in the new ones
pub record Extends (old new : List ℕ) : Type 0 where
  pub part : List ℕ
  pub grown : new ≡ old ++ part
