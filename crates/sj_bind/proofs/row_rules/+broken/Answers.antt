use Rattle.std.proofs.Common.{◌||◌, sym, ap, ◌∙◌}
use Rattle.std.specs.List.{list_any}
use Rattle.sj_bind.specs.Names.{names_of}
use Rattle.sj_bind.specs.Parts.{names_in, keys_in}
use Rattle.sj_bind.specs.RowRules.{is_unknown, is_wrong_key}
use Rattle.sj_bind.proofs.Constructed.{is_object, is_array}
use Rattle.sj_bind.proofs.row_rules.+broken.Goals as goal

pub with_value-returns-in-Object-clause-unknown : goal.with_value-returns-in-Object-clause-unknown
with_value-returns-in-Object-clause-unknown t c =
    c.with_members.ensures.unknown
    ∙ ap (λ l. c.args.before.unknown_name || list_any (is_unknown (names_of c.args.known.columns.now)) l) (sym (ap names_in (is_object c.in-Object.members c.in-Object.is c.deref.ensures.value)))

pub with_value-returns-in-Object-clause-wrong : goal.with_value-returns-in-Object-clause-wrong
with_value-returns-in-Object-clause-wrong t c =
    c.with_members.ensures.wrong
    ∙ ap (λ l. c.args.before.wrong_key || list_any (is_wrong_key (names_of c.args.known.texts.now)) l) (sym (ap keys_in (is_object c.in-Object.members c.in-Object.is c.deref.ensures.value)))

pub with_value-returns-in-Array-clause-unknown : goal.with_value-returns-in-Array-clause-unknown
with_value-returns-in-Array-clause-unknown t c =
    c.with_values.ensures.unknown
    ∙ ap (λ l. c.args.before.unknown_name || list_any (is_unknown (names_of c.args.known.columns.now)) l) (sym (ap names_in (is_array c.in-Array.values c.in-Array.is c.deref-in-Array.ensures.value)))

pub with_value-returns-in-Array-clause-wrong : goal.with_value-returns-in-Array-clause-wrong
with_value-returns-in-Array-clause-wrong t c =
    c.with_values.ensures.wrong
    ∙ ap (λ l. c.args.before.wrong_key || list_any (is_wrong_key (names_of c.args.known.texts.now)) l) (sym (ap keys_in (is_array c.in-Array.values c.in-Array.is c.deref-in-Array.ensures.value)))
