-- what is left to make falls; of two parts, both are counted
use Rattle.std.proofs.Common.{◌+◌, ◌*◌}
use Rattle.sj_path_tree.specs.Nodes.{expr_nodes, step_nodes, sub_nodes, subs_nodes, pred_nodes}
use Rattle.sj_path_tree.specs.View.{expr_of, step_of, sub_of, subs_of, pred_of}
use Rattle.sj_cursor.proofs.build.+build.Given as goal

abbrev pub decreases-expr_cell : goal.decreases-expr_cell
decreases-expr_cell l = 2 * expr_nodes (expr_of l.expr.now)

abbrev pub decreases-two_cells : goal.decreases-two_cells
decreases-two_cells l = 2 * (expr_nodes (expr_of l.left.now) + expr_nodes (expr_of l.right.now)) + 1

abbrev pub decreases-step_cell : goal.decreases-step_cell
decreases-step_cell l = 2 * step_nodes (step_of l.step.now)

abbrev pub decreases-parts_cell : goal.decreases-parts_cell
decreases-parts_cell l = 2 * subs_nodes (subs_of l.subs.now) + 1

abbrev pub decreases-ends_cell : goal.decreases-ends_cell
decreases-ends_cell l = 2 * sub_nodes (sub_of l.sub.now)

abbrev pub decreases-test_cell : goal.decreases-test_cell
decreases-test_cell l = 2 * pred_nodes (pred_of l.pred.now)

abbrev pub decreases-two_tests : goal.decreases-two_tests
decreases-two_tests l = 2 * (pred_nodes (pred_of l.left.now) + pred_nodes (pred_of l.right.now)) + 1
