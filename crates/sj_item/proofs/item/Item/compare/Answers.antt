use Rattle.std.proofs.Common.{◌∙◌, ap, pos}
use Rattle.sj_item.specs.Truths.{truth_of}
use Rattle.sj_item.specs.Orders.{holds}
use Rattle.sj_item.specs.Items.{item_value, item_tree}
use Rattle.sj_item.proofs.Coefficients.{whole_order}
use Rattle.sj_item.proofs.Comparisons.{numbers_compare}
use Rattle.sj_item.proofs.item.Item.compare.Goals as goal

pub returns-in-Some-short_whole : goal.returns-in-Some-short_whole
returns-in-Some-short_whole c =
    c.decided.ensures
    ∙ ap (λ r. truth_of (holds c.args.op r)) (c.cmp.ensures ∙ whole_order c.in-Some.left c.in-Some-short_whole.right)
    ∙ numbers_compare c.args.op (item_tree (item_value c.args.self.now)) (item_tree (item_value c.args.other.now)) (pos c.in-Some.left, 0) (pos c.in-Some-short_whole.right, 0)
    c.in-Some.ensures c.in-Some-short_whole.ensures
