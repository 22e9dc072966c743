use Rattle.std.specs.Int.{w128}
use Rattle.std.proofs.Common.{rules, to_z-of_z, SFits, ◌∙◌, ap}
use Rattle.sj_item.specs.Truths.{truth_of}
use Rattle.sj_item.specs.Orders.{holds}
use Rattle.sj_item.specs.Items.{item_value, item_tree}
use Rattle.sj_item.proofs.Comparisons.{numbers_compare}
use Rattle.sj_item.proofs.comparison.compare_exact.Goals as goal

pub returns-in-Some-exact_parts : goal.returns-in-Some-exact_parts
returns-in-Some-exact_parts c =
    let left : SFits w128 c.in-Some.left = search rules in
    let right : SFits w128 c.in-Some-exact_parts.right = search rules in
    c.decided.ensures
    ∙ ap (λ r. truth_of (holds c.args.op r)) (simp to_z-of_z at c.order_of_parts.ensures)
    ∙ numbers_compare c.args.op (item_tree (item_value c.args.left.now)) (item_tree (item_value c.args.right.now)) (c.in-Some.left, c.in-Some.left_scale) (c.in-Some-exact_parts.right, c.in-Some-exact_parts.right_scale)
    c.in-Some.ensures.value c.in-Some-exact_parts.ensures.value
