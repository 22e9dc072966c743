-- The rows of a plan over numbered paths, where a cell stands at its beginning.
use Rattle.std.proofs.Common.{◌≡◌, ℕ, List, ap, ◌∙◌}
use Rattle.sj_item.specs.Items.{ItemValue}
use Rattle.sj_path_tree.specs.Tree.{Path}
use Rattle.sj_path_tree.specs.Vars.{Variables}
use Rattle.sj_value.specs.Plans.{PlanTree}
use Rattle.sj_value.specs.declared.clauses.TableAction.{TableAction}
use Rattle.sj_table.specs.Rows.{PlanRows, SourcePlan, rows, cost, sourced, plan_rows, plan_cost}

pub rows_begin : (paths : List Path) (vars : Variables) (action : TableAction) (plan : PlanTree) (x : ItemValue) (core : SourcePlan) (left : PlanRows)
    → core ≡ sourced paths vars plan → left ≡ rows action core x → left ≡ plan_rows paths vars action plan x
unfolding plan_rows
rows_begin paths vars action plan x core left e k = k ∙ ap (λ c. rows action c x) e

pub cost_begins : (paths : List Path) (vars : Variables) (action : TableAction) (plan : PlanTree) (x : ItemValue) (core : SourcePlan) (due : ℕ)
    → core ≡ sourced paths vars plan → due ≡ cost action core x → due ≡ plan_cost paths vars action plan x
unfolding plan_cost
cost_begins paths vars action plan x core due e k = k ∙ ap (λ c. cost action c x) e
