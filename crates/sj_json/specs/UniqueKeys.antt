-- Whether no object has two equal keys, as a question with an answer. By the law `unique_keys` it is that of `HasUniqueKeys`.
use Rattle.std.specs.Prelude.{ℕ, Bool, true, not, ◌&&◌, List, [], ◌∷◌}
use Rattle.std.specs.Str.{bytes_eq}
use Rattle.std.specs.List.{list_all, list_any}
use Rattle.sj_json.specs.Tree.{Tree, subtrees}
use Rattle.sj_json.specs.Keys.{keys}

-- no two are equal
abbrev pub are_distinct : List (List ℕ) → Bool
are_distinct [] = true
are_distinct (k ∷ ks) = not (list_any (bytes_eq k) ks) && are_distinct ks

-- in no object, at any depth
abbrev pub has_unique_keys : Tree → Bool
has_unique_keys t = list_all (λ u. are_distinct (keys u)) (subtrees t)
