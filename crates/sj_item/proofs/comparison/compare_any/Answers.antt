use Rattle.std.proofs.Common.{◌∙◌}
use Rattle.sj_item.specs.Items.{item_value, item_tree}
use Rattle.sj_item.proofs.Comparisons.{compares}
use Rattle.sj_item.proofs.comparison.compare_any.Goals as goal

pub returns : goal.returns
returns c =
    c.compare_as.ensures
    ∙ compares c.args.op (item_tree (item_value c.args.left.now)) (item_tree (item_value c.args.right.now)) c.as_comparand.result c.as_comparand-2.result c.as_comparand.ensures c.as_comparand-2.ensures
