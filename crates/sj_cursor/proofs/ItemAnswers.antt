-- Answers that are no end, or no item.
use Rattle.std.proofs.Common.{◌≡◌, refl}
use Rattle.sj_item.specs.Items.{ItemValue, gives, ends}
use Rattle.sj_item.specs.declared.item.Item.{Item}
use Rattle.sj_step.specs.Answers.{answer_value}
use Rattle.sj_step.specs.declared.answer.Answer.{Answer}
use Rattle.sj_step.specs.declared.answer.Answer.TheVariants as answers

pub no_end : (r : Answer) (x : Item) → (r ≡ answers.End → ⊥) → answer_value r x ≡ ends → ⊥
no_end answers.Item x other e = cc
no_end answers.End x other e = other refl
no_end (answers.Fault s) x other e = cc

pub no_item : (r : Answer) (x : Item) → (r ≡ answers.Item → ⊥) → (y : ItemValue) → answer_value r x ≡ gives y → ⊥
no_item answers.Item x other y e = other refl
no_item answers.End x other y e = cc
no_item (answers.Fault s) x other y e = cc
