use Rattle.std.proofs.Common.{◌∙◌}
use Rattle.sj_item.proofs.CodePoints.{text_cmp-bytes}
use Rattle.sj_item.proofs.texts.order_of_texts.Goals as goal

pub returns : goal.returns
returns c = c.cmp.ensures ∙ text_cmp-bytes c.args.left.now c.args.right.now c.utf8.left c.utf8.right
