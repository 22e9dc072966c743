use Rattle.std.proofs.Common.{true, ap, sym, refl}
use Rattle.sj_item.specs.Items.{item_value}
use Rattle.sj_item.specs.Pairs.{items_compare}
use Rattle.sj_path_tree.specs.declared.parts.Mode.TheVariants.{Lax}
use Rattle.sj_step.specs.Trace.{only}
use Rattle.sj_cursor.proofs.ComparisonVerdicts.{right_decides}
use Rattle.sj_cursor.proofs.moves.MemberTest.truth.Goals as goal

pub returns : goal.returns
returns c =
    right_decides Lax (items_compare c.args.self.now.op) (item_value c.args.self.now.literal.item) _ _ true _ _ _ _ _ (ap only (sym c.args.self.now.literal.made)) refl c.truth.ensures c.see_below.ensures
