-- Keys that an object has more than once.
use Rattle.std.specs.Prelude.{◌≢◌, ℕ, ◌<◌, List, [], ◌∷◌, AllPairs}
use Rattle.sj_json.specs.Tree.{Tree, null, truth, string, number, array, object, Members, no_members, member, subtree, node_count}

-- no two are equal
abbrev pub AreDistinct : List (List ℕ) → Type 0
AreDistinct ks = AllPairs (λ a b. a ≢ b) ks

abbrev pub member_keys : Members → List (List ℕ)
member_keys no_members = []
member_keys (member k t ms) = k ∷ member_keys ms

-- the keys of an object in their order, and none of another tree
abbrev pub keys : Tree → List (List ℕ)
keys null = []
keys (truth b) = []
keys (string s) = []
keys (number v) = []
keys (array ts) = []
keys (object ms) = member_keys ms

-- no object, at any depth, has two equal keys
abbrev pub HasUniqueKeys : Tree → Type 0
HasUniqueKeys t = (i : ℕ) → i < node_count t → AreDistinct (keys (subtree t i))
