-- The keys among children.
use Rattle.std.specs.Prelude.{ℕ, List, [], ◌∷◌, Some, None}
use Rattle.sj_json.specs.Tree.{NumberedChild}

abbrev pub given : List NumberedChild → List (List ℕ)
given [] = []
given ((None, i, t) ∷ cs) = given cs
given ((Some k, i, t) ∷ cs) = k ∷ given cs
