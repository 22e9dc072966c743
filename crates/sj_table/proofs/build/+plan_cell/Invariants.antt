use Rattle.sj_value.specs.Plans.{plan_tree}
use Rattle.sj_table.proofs.Placed.{tree_size}
use Rattle.sj_table.proofs.build.+plan_cell.Given as goal

abbrev pub decreases-plan_cell : goal.decreases-plan_cell
decreases-plan_cell l = tree_size (plan_tree l.plan.now)
