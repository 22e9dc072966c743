use Rattle.std.proofs.Common.{sym, ◌∙◌}
use Rattle.sj_item.specs.Items.{item_value, item_tree}
use Rattle.sj_value.proofs.Cells.{cast_null, cast_other}
use Rattle.sj_value.proofs.casts.cast.Goals as goal

pub returns-in-Null-clause-value : goal.returns-in-Null-clause-value
returns-in-Null-clause-value c = cast_null (item_tree (item_value c.args.item)) c.args.ty (sym c.kind.ensures ∙ c.in-Null.is)

pub returns-in_default-clause-value : goal.returns-in_default-clause-value
returns-in_default-clause-value c =
    rw (cast_other (item_tree (item_value c.args.item)) c.args.ty (λ e. c.in_default.not-Null (c.kind.ensures ∙ e))) c.cast_scalar.ensures.value
