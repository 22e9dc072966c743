use Rattle.std.proofs.Common.{◌∙◌}
use Rattle.sj_item.specs.Items.{item_value, item_tree}
use Rattle.sj_item.proofs.Comparisons.{starts}
use Rattle.sj_item.proofs.item.Item.starts_with.Goals as goal

pub returns : goal.returns
returns c =
    c.starts_with_as.ensures
    ∙ starts (item_tree (item_value c.args.self.now)) (item_tree (item_value c.args.start.now)) c.as_comparand.result c.as_comparand-2.result c.as_comparand.ensures c.as_comparand-2.ensures
