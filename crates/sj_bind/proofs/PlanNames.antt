-- How often a name stands in two lists.
use Rattle.std.proofs.Common.{◌≡◌, ℕ, List, [], ◌∷◌, ◌++◌, ◌+◌, arith}
use Rattle.sj_bind.specs.Plans.{name_count}

pub count_both : (name : List ℕ) (xs ys : List (List ℕ)) → name_count name (xs ++ ys) ≡ name_count name xs + name_count name ys
count_both name [] ys = omega arith
count_both name (x ∷ xs) ys = let h = count_both name xs ys in omega arith
