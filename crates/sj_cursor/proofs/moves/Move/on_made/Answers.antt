use Rattle.sj_item.specs.Items.{item_value}
use Rattle.sj_cursor.specs.Moves.{tested}
use Rattle.sj_cursor.proofs.MadeItems.{unwrap_made, one_leads}
use Rattle.sj_cursor.proofs.Trails.{leads_same, filter_true, filter_other}
use Rattle.sj_cursor.proofs.moves.Move.on_made.Goals as goal

pub returns-in-Unwrap : goal.returns-in-Unwrap
returns-in-Unwrap c = λ within. rw c.in-Unwrap.is (leads_same _ _ _ (unwrap_made c.args.item.now within c.requires))

pub returns-in-Member : goal.returns-in-Member
returns-in-Member c = λ within. rw c.in-Member.is (one_leads _ _ within _ c.made_member.ensures)

pub returns-in-True : goal.returns-in-True
returns-in-True c = λ within. rw c.in-Filter.is (filter_true (tested c.in-Filter.test (item_value c.args.item.now)) within (item_value c.args.item.now) _ _ _ c.truth_of_made.ensures c.in-True.is)

pub returns-in_default : goal.returns-in_default
returns-in_default c = λ within. rw c.in-Filter.is (filter_other (tested c.in-Filter.test (item_value c.args.item.now)) within (item_value c.args.item.now) _ _ _ c.truth_of_made.ensures c.in_default.not-True)
