-- The question for equal keys, answered as `HasUniqueKeys` has it.
use Rattle.std.proofs.Common.{◌≡◌, ℕ, ◌<◌, List, [], ◌∷◌, length, get_or, Bool, true, false, not, ◌&&◌, ◌||◌, bytes_eq, refl, arith}
use Rattle.std.specs.List.{list_any, IsDistinct, AllByRecursion}
use Rattle.std.proofs.lemmas.List.{get_or_default}
use Rattle.std.proofs.lemmas.List.Sums.{AllPass-from_list_all, list_all-from_AllPass}
use Rattle.std.proofs.lemmas.Map.Made.{AllPairs-from_IsDistinct, IsDistinct-from_AllPairs}
use Rattle.std.proofs.lemmas.Slice.Eq.{bytes_eq-Decides}
use Rattle.sj_json.specs.Tree.{Tree, null, subtrees, subtree}
use Rattle.sj_json.specs.Keys.{keys, HasUniqueKeys}
use Rattle.sj_json.proofs.Places.{length-subtrees}
use Rattle.sj_json.specs.UniqueKeys.{are_distinct, has_unique_keys}

pub both : (b c : Bool) → (b && c) ≡ true → (b ≡ true) × (c ≡ true)
both true c h = (refl, h)
both false c h = cc

neither : (b c : Bool) → not (b || c) ≡ true → (b ≡ false) × (not c ≡ true)
neither true c h = cc
neither false c h = (refl, h)

-- no key of the list is this one
all_other : (k : List ℕ) (ks : List (List ℕ)) → not (list_any (bytes_eq k) ks) ≡ true → AllByRecursion (λ y. bytes_eq k y ≡ false) ks
all_other k [] h = tt
all_other k (x ∷ xs) h = let other = neither (bytes_eq k x) (list_any (bytes_eq k) xs) h in (other.0, all_other k xs other.1)

none_like : (k : List ℕ) (ks : List (List ℕ)) → AllByRecursion (λ y. bytes_eq k y ≡ false) ks → not (list_any (bytes_eq k) ks) ≡ true
none_like k [] h = refl
none_like k (x ∷ xs) h = none_more (bytes_eq k x) (list_any (bytes_eq k) xs) h.0 (none_like k xs h.1)
  where
    none_more : (b c : Bool) → b ≡ false → not c ≡ true → not (b || c) ≡ true
    none_more true c e h = cc
    none_more false c e h = h

is_distinct : (ks : List (List ℕ)) → are_distinct ks ≡ true → IsDistinct bytes_eq ks
unfolding IsDistinct
is_distinct [] h = tt
is_distinct (k ∷ ks) h = let parts = both (not (list_any (bytes_eq k) ks)) (are_distinct ks) h in (all_other k ks parts.0, is_distinct ks parts.1)

tested_distinct : (ks : List (List ℕ)) → IsDistinct bytes_eq ks → are_distinct ks ≡ true
unfolding IsDistinct
tested_distinct [] h = refl
tested_distinct (k ∷ ks) h = rw (none_like k ks h.0) (tested_distinct ks h.1)

pub unique_from : (t : Tree) → has_unique_keys t ≡ true → HasUniqueKeys t
unique_from t h i within =
    let here : are_distinct (keys (subtree t i)) ≡ true = AllPass-from_list_all (λ u. are_distinct (keys u)) (subtrees t) h i null (omega (arith, length-subtrees t)) in
    AllPairs-from_IsDistinct bytes_eq-Decides (keys (subtree t i)) (is_distinct (keys (subtree t i)) here)

pub unique_to : (t : Tree) → HasUniqueKeys t → has_unique_keys t ≡ true
unique_to t h = list_all-from_AllPass (λ u. are_distinct (keys u)) (subtrees t) here
  where
    here : (i : ℕ) (d : Tree) → i < length (subtrees t) → are_distinct (keys (get_or (subtrees t) i d)) ≡ true
    here i d within =
        rw (get_or_default (subtrees t) i d null within)
        (tested_distinct (keys (subtree t i)) (IsDistinct-from_AllPairs bytes_eq-Decides (keys (subtree t i)) (h i (omega (arith, length-subtrees t)))))
