-- The plans of PLAN DEFAULT, joined one after another, are those of the whole list.
use Rattle.std.proofs.Common.{◌≡◌, ℕ, List, [], ◌∷◌, Some, None, refl, ap, ◌∙◌}
use Rattle.sj_sql_grammar.specs.declared.clauses.InOut.{InOut}
use Rattle.sj_sql_grammar.specs.declared.clauses.Siblings.{Siblings}
use Rattle.std.specs.Prelude.{Result, Ok, Err, IfOk}
use Rattle.sj_value.specs.declared.plan.Plan.{Plan}
use Rattle.sj_value.specs.Plans.{PlanTree, plan_tree}
use Rattle.sj_bind.specs.Plans.{beside, grouped, over}
use Rattle.sj_bind.specs.Grown.{with_all, path_over}

with_all-some : (s : Siblings) (p : PlanTree) (ps : List PlanTree) → with_all s (Some p) ps ≡ Some (grouped s p ps)
with_all-some s p [] = refl
with_all-some s p (q ∷ qs) = with_all-some s (beside s p q) qs

pub over_is : (i : InOut) (s : Siblings) (n : ℕ) (ps : List PlanTree) → path_over i n (with_all s None ps) ≡ over i s n ps
over_is i s n [] = refl
over_is i s n (p ∷ ps) = ap (path_over i n) (with_all-some s p ps)

pub same_plan : {E : Type 0} (made : Result Plan E) (a b : PlanTree) → a ≡ b → IfOk made (λ plan. plan_tree plan ≡ a) → IfOk made (λ plan. plan_tree plan ≡ b)
same_plan (Ok plan) a b same h = h ∙ same
same_plan (Err e) a b same h = tt
