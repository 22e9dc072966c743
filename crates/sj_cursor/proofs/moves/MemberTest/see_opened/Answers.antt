use Rattle.std.proofs.Common.{true}
use Rattle.sj_item.specs.Items.{item_value}
use Rattle.sj_item.specs.Pairs.{items_compare}
use Rattle.sj_path_tree.specs.declared.parts.Mode.TheVariants.{Lax}
use Rattle.sj_plain_path.proofs.NotUnwrapped.{made_unopened}
use Rattle.sj_cursor.proofs.SingleItems.{one_seen}
use Rattle.sj_cursor.proofs.moves.MemberTest.see_opened.Goals as goal

pub returns-in_default : goal.returns-in_default
returns-in_default c =
    one_seen _ (item_value c.args.item.now) true (λ x. items_compare c.args.self.now.op x (item_value c.args.self.now.literal.item)) _ _ _ (made_unopened Lax c.args.item.now c.in_default.not-Node)
    (rw c.truth.ensures at c.saw.ensures.found) (rw c.truth.ensures at c.saw.ensures.doubt)
