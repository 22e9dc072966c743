-- Keys of members, noted in a set where no two may be equal.
use Rattle.std.specs.Prelude.{ℕ, List, [], ◌∷◌, ◌++◌, map, Bool, true, false, Option, Some, None, String, string_bytes}
use Rattle.std.specs.Borrow.{Bor}
use Rattle.std.specs.HashSet.{HashSet}

-- the keys that a set lends, in the order in which they were noted
abbrev pub lent : {S : Type 0} → HashSet (Bor (List ℕ)) S → List (List ℕ)
lent seen = map (λ key. key.now) seen.keys

abbrev pub lent_keys : {S : Type 0} → Option (HashSet (Bor (List ℕ)) S) → List (List ℕ)
lent_keys None = []
lent_keys (Some seen) = lent seen

-- the keys that a set owns
abbrev pub owned : {S Z : Type 0} → HashSet (String Z) S → List (List ℕ)
owned seen = map string_bytes seen.keys

abbrev pub owned_keys : {S Z : Type 0} → Option (HashSet (String Z) S) → List (List ℕ)
owned_keys None = []
owned_keys (Some seen) = owned seen

-- one key more is noted where no two may be equal
abbrev pub noted : Bool → List (List ℕ) → List ℕ → List (List ℕ)
noted true keys key = keys ++ key ∷ []
noted false keys key = keys
