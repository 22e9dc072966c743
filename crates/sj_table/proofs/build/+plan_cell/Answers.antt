use Rattle.std.proofs.Common.{arith, ap}
use Rattle.sj_value.specs.Plans.{plan_tree, one_at, times}
use Rattle.sj_table.proofs.Placed.{named, named_alone, in_left, in_right, some_size, tree_size}
use Rattle.sj_table.proofs.build.+plan_cell.Goals as goal

pub single-requires : goal.single-requires
single-requires t c = named_alone _ _ (rw c.in-Path.is at c.requires)

pub plan_cell-requires : goal.plan_cell-requires
plan_cell-requires t c = rw c.deref.ensures
    (omega (arith, ap (λ p. tree_size (plan_tree p)) c.in-Outer.is), in_right _ (λ k. one_at k c.in-Outer.number) (λ k. times k (plan_tree c.in-Outer.below.value)) (rw c.in-Outer.is at c.requires))

pub nested-requires : goal.nested-requires
nested-requires t c = named _ _ (λ k. times k (plan_tree c.in-Outer.below.value)) (rw c.in-Outer.is at c.requires)

pub plan_cell-requires-in-Inner : goal.plan_cell-requires-in-Inner
plan_cell-requires-in-Inner t c = rw c.deref-in-Inner.ensures
    (omega (arith, ap (λ p. tree_size (plan_tree p)) c.in-Inner.is), in_right _ (λ k. one_at k c.in-Inner.number) (λ k. times k (plan_tree c.in-Inner.below.value)) (rw c.in-Inner.is at c.requires))

pub nested-requires-in-Inner : goal.nested-requires-in-Inner
nested-requires-in-Inner t c = named _ _ (λ k. times k (plan_tree c.in-Inner.below.value)) (rw c.in-Inner.is at c.requires)

pub plan_cell-requires-in-Union : goal.plan_cell-requires-in-Union
plan_cell-requires-in-Union t c = rw c.deref-in-Union.ensures
    (omega (arith, some_size (plan_tree c.in-Union.right.value), ap (λ p. tree_size (plan_tree p)) c.in-Union.is), in_left _ (λ k. times k (plan_tree c.in-Union.left.value)) (λ k. times k (plan_tree c.in-Union.right.value)) (rw c.in-Union.is at c.requires))

pub plan_cell-requires-in-Union-2 : goal.plan_cell-requires-in-Union-2
plan_cell-requires-in-Union-2 t c = rw c.deref-in-Union-2.ensures
    (omega (arith, some_size (plan_tree c.in-Union.left.value), ap (λ p. tree_size (plan_tree p)) c.in-Union.is), in_right _ (λ k. times k (plan_tree c.in-Union.left.value)) (λ k. times k (plan_tree c.in-Union.right.value)) (rw c.in-Union.is at c.requires))

pub plan_cell-requires-in-Cross : goal.plan_cell-requires-in-Cross
plan_cell-requires-in-Cross t c = rw c.deref-in-Cross.ensures
    (omega (arith, some_size (plan_tree c.in-Cross.right.value), ap (λ p. tree_size (plan_tree p)) c.in-Cross.is), in_left _ (λ k. times k (plan_tree c.in-Cross.left.value)) (λ k. times k (plan_tree c.in-Cross.right.value)) (rw c.in-Cross.is at c.requires))

pub plan_cell-requires-in-Cross-2 : goal.plan_cell-requires-in-Cross-2
plan_cell-requires-in-Cross-2 t c = rw c.deref-in-Cross-2.ensures
    (omega (arith, some_size (plan_tree c.in-Cross.left.value), ap (λ p. tree_size (plan_tree p)) c.in-Cross.is), in_right _ (λ k. times k (plan_tree c.in-Cross.left.value)) (λ k. times k (plan_tree c.in-Cross.right.value)) (rw c.in-Cross.is at c.requires))
