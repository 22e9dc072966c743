-- The numbers that stand in a plan over paths are those of paths.
use Rattle.std.proofs.Common.{◌≡◌, ◌≤◌, ◌<◌, ℕ, ◌+◌, arith}
use Rattle.std.proofs.lemmas.Bool.Decides.{nat_tests}
use Rattle.sj_value.specs.Plans.{PlanTree, path_rows, outer_join, inner_join, union_of, cross_of, one_at}

-- how many paths and operators a plan has
abbrev pub tree_size : PlanTree → ℕ
tree_size (path_rows n) = 1
tree_size (outer_join n below) = tree_size below + 1
tree_size (inner_join n below) = tree_size below + 1
tree_size (union_of a b) = tree_size a + tree_size b + 1
tree_size (cross_of a b) = tree_size a + tree_size b + 1

pub some_size : (plan : PlanTree) → 1 ≤ tree_size plan
some_size (path_rows n) = omega arith
some_size (outer_join n below) = omega arith
some_size (inner_join n below) = omega arith
some_size (union_of a b) = omega arith
some_size (cross_of a b) = omega arith

one_here : (n : ℕ) → one_at n n ≡ 1
one_here n = grind (arith, nat_tests)

-- a number that stands in a plan names a path
pub named : (n count : ℕ) (others : ℕ → ℕ) → ((k : ℕ) → count ≤ k → one_at k n + others k ≡ 0) → n < count
named n count others h = grind (arith, h n, one_here n)

-- the only one
pub named_alone : (n count : ℕ) → ((k : ℕ) → count ≤ k → one_at k n ≡ 0) → n < count
named_alone n count h = grind (arith, h n, one_here n)

-- what stands nowhere in a plan stands nowhere in its parts
pub in_left : (count : ℕ) (left right : ℕ → ℕ) → ((k : ℕ) → count ≤ k → left k + right k ≡ 0) → (k : ℕ) → count ≤ k → left k ≡ 0
in_left count left right h k over = omega (arith, h k over)

pub in_right : (count : ℕ) (left right : ℕ → ℕ) → ((k : ℕ) → count ≤ k → left k + right k ≡ 0) → (k : ℕ) → count ≤ k → right k ≡ 0
in_right count left right h k over = omega (arith, h k over)
