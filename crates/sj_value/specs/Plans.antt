-- Plans of a JSON_TABLE, without where their parts lie in memory.
use Rattle.std.specs.Prelude.{◌≡◌, ℕ, ◌+◌, ◌<◌, ◌≤◌, ◌==◌, Option, Some, None, if◌then◌else◌}
use Rattle.sj_value.specs.declared.plan.Plan.{Plan, Path, Outer', Inner', Union', Cross'}

pub data PlanTree : Type 0 where
  path_rows : ℕ → PlanTree
  outer_join : ℕ → PlanTree → PlanTree
  inner_join : ℕ → PlanTree → PlanTree
  union_of : PlanTree → PlanTree → PlanTree
  cross_of : PlanTree → PlanTree → PlanTree

abbrev pub plan_tree : Plan → PlanTree
plan_tree (Path n) = path_rows n
plan_tree (Outer' n p child) = outer_join n (plan_tree child)
plan_tree (Inner' n p child) = inner_join n (plan_tree child)
plan_tree (Union' p a q b) = union_of (plan_tree a) (plan_tree b)
plan_tree (Cross' p a q b) = cross_of (plan_tree a) (plan_tree b)

-- ---- what a plan over the paths of a table meets

abbrev pub one_at : ℕ → ℕ → ℕ
one_at k n = if k == n then 1 else 0

-- how often a number stands in a plan
abbrev pub times : ℕ → PlanTree → ℕ
times k (path_rows n) = one_at k n
times k (outer_join n below) = one_at k n + times k below
times k (inner_join n below) = one_at k n + times k below
times k (union_of a b) = times k a + times k b
times k (cross_of a b) = times k a + times k b

-- the path at the root, where one stands alone there or over a plan
abbrev pub root_of : PlanTree → Option ℕ
root_of (path_rows n) = Some n
root_of (outer_join n below) = Some n
root_of (inner_join n below) = Some n
root_of (union_of a b) = None
root_of (cross_of a b) = None

-- the plan joins the paths with the numbers below `n`: each stands in it once, and the row path is its root
pub record IsPlanOver (n : ℕ) (plan : PlanTree) : Type 0 where
  pub root : root_of plan ≡ Some 0
  pub once : (k : ℕ) → k < n → times k plan ≡ 1
  pub others : (k : ℕ) → n ≤ k → times k plan ≡ 0
