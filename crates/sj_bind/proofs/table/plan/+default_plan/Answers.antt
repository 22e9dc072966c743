use Rattle.std.proofs.Common.{◌≡◌, List, [], option_map, sym, ap, ◌∙◌, arith}
use Rattle.std.proofs.lemmas.Grind.{common_steps}
use Rattle.sj_value.specs.Plans.{plan_tree}
use Rattle.sj_bind.specs.declared.flat.FlatPath.{FlatPath}
use Rattle.sj_bind.specs.FlatView.{paths_at}
use Rattle.sj_bind.specs.Grown.{with_all, path_over}
use Rattle.sj_bind.specs.Plans.{default_in}
use Rattle.sj_bind.proofs.DefaultPlans.{over_is, same_plan}
use Rattle.sj_bind.proofs.table.plan.+default_plan.Goals as goal

pub returns : goal.returns
returns t c =
    let none : c.loop-path.rest.now ≡ [] = grind (arith, common_steps) in
    let left = ap (λ (ps : List FlatPath). with_all c.args.siblings (option_map plan_tree c.loop-path.below) (default_in c.args.in_out c.args.siblings c.args.number c.loop-path.next (paths_at ps))) (sym none) in
    same_plan c.path_over.result _ _
    (ap (path_over c.args.in_out c.args.number) (left ∙ c.loop-path.invariant.plans) ∙ over_is c.args.in_out c.args.siblings c.args.number (default_in c.args.in_out c.args.siblings c.args.number c.args.next (paths_at c.args.paths.now)))
    c.path_over.ensures
