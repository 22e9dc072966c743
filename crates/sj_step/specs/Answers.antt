-- An answer whose item stands at a place.
use Rattle.sj_item.specs.Items.{PullValue, gives, ends, faults, item_value}
use Rattle.sj_item.specs.declared.item.Item.{Item}
use Rattle.sj_step.specs.declared.answer.Answer.{Answer}
use Rattle.sj_step.specs.declared.answer.Answer.TheVariants as answers

abbrev pub answer_value : Answer → Item → PullValue
answer_value answers.Item x = gives (item_value x)
answer_value answers.End x = ends
answer_value (answers.Fault s) x = faults s
