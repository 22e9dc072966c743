use Rattle.sj_cursor.proofs.MadeItems.{member_gives, all_gives, first_gives, behind_first_gives}
use Rattle.sj_cursor.proofs.arrival.link_on_made.Goals as goal

pub returns-in-Member : goal.returns-in-Member
returns-in-Member c = rw c.in-Member.is (member_gives c.args.item.now c.in-Member.key _ c.requires c.made_member.ensures)

pub returns-in-AllElements : goal.returns-in-AllElements
returns-in-AllElements c = rw c.in-AllElements.is (all_gives c.args.item.now c.requires)

pub returns-then-index-eq0 : goal.returns-then-index-eq0
returns-then-index-eq0 c = rw c.in-Element.is (first_gives c.in-Element.index c.args.item.now c.requires c.if-index-eq0.true)

pub returns-else-index-eq0 : goal.returns-else-index-eq0
returns-else-index-eq0 c = rw c.in-Element.is (behind_first_gives c.in-Element.index c.args.item.now c.requires c.if-index-eq0.false)
