use Rattle.std.proofs.Common.{refl, sym, ap, ◌∙◌}
use Rattle.sj_decimal.specs.Text.{decimal_text}
use Rattle.sj_item.specs.Answers.{values}
use Rattle.sj_item.specs.Items.{item_value, item_tree, made_text}
use Rattle.sj_item.specs.Scalars.{text_cast}
use Rattle.sj_value.proofs.Cells.{text_is, state_is}
use Rattle.sj_value.proofs.casts.any_text.Goals as goal

pub returns-in-Ok-Text-clause-value : goal.returns-in-Ok-Text-clause-value
returns-in-Ok-Text-clause-value c =
    let cell = text_cast (item_tree (item_value c.args.item)) in
    let arm = c.in-Ok-Text in
    let is = text_is cell (item_value arm.field-0) arm.text.now (ap values (sym arm.is) ∙ c.to_text.ensures.value) (ap item_value arm.field-0-is) in
    rw is c.text_value.ensures.value

pub returns-in-Ok-NumberText-clause-value : goal.returns-in-Ok-NumberText-clause-value
returns-in-Ok-NumberText-clause-value c =
    let cell = text_cast (item_tree (item_value c.args.item)) in
    let arm = c.in-Ok-NumberText in
    let text = c.as_str.ensures.value ∙ c.text.ensures.value ∙ ap decimal_text c.value.ensures in
    let is = text_is cell (item_value arm.field-0) c.as_str.result.now (ap values (sym arm.is) ∙ c.to_text.ensures.value) (ap item_value arm.field-0-is ∙ ap made_text (sym text)) in
    rw is c.text_value-in-Ok-NumberText.ensures.value

pub returns-in-Err-clause-value : goal.returns-in-Err-clause-value
returns-in-Err-clause-value c =
    let cell = text_cast (item_tree (item_value c.args.item)) in
    let is = state_is cell c.in-Err.state (ap values (sym c.in-Err.is) ∙ c.to_text.ensures.value) in
    rw (is, c.refused.ensures) refl
