-- The children under one key.
use Rattle.std.specs.Prelude.{ℕ, List, [], ◌∷◌, Bool, false, Option, Some, None, if◌then◌else◌}
use Rattle.std.specs.Str.{bytes_eq}
use Rattle.sj_json.specs.Tree.{NumberedChild}

abbrev pub is_key : List ℕ → Option (List ℕ) → Bool
is_key key None = false
is_key key (Some k) = bytes_eq k key

-- what begins with the first child under the key; without one nothing
abbrev pub from_key : List ℕ → List NumberedChild → List NumberedChild
from_key key [] = []
from_key key (c ∷ cs) = if is_key key c.0 then c ∷ cs else from_key key cs
