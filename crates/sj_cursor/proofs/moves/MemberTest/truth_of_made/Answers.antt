use Rattle.sj_cursor.proofs.MadeItems.{member_decides, none_decides}
use Rattle.sj_cursor.proofs.moves.MemberTest.truth_of_made.Goals as goal

pub returns-in-Some : goal.returns-in-Some
returns-in-Some c = member_decides c.args.self.now c.args.item.now c.in-Some.member _ _ _ _ _ c.args.self.now.literal.made c.requires c.in-Some.ensures c.truth.ensures c.see_opened.ensures

pub returns-in-None : goal.returns-in-None
returns-in-None c = none_decides c.args.self.now c.args.item.now _ c.args.self.now.literal.made c.requires c.in-None.ensures
