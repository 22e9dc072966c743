use Rattle.sj_path_tree.specs.declared.parts.Mode.TheVariants.{Lax}
use Rattle.sj_cursor.proofs.MadeItems.{pair_gives, other_gives}
use Rattle.sj_cursor.proofs.moves.made_member.Goals as goal

pub returns-in-Pair : goal.returns-in-Pair
returns-in-Pair c = pair_gives c.args.item.now c.in-Pair.pair c.args.key.now _ c.in-Pair.is (c.part_under.ensures Lax)

pub returns-in_default : goal.returns-in_default
returns-in_default c = other_gives c.args.item.now c.args.key.now c.requires c.in_default.not-Pair
