use Rattle.std.proofs.Common.{sym, ◌∙◌}
use Rattle.sj_decimal.specs.Limits.{max_digits}
use Rattle.sj_item.proofs.Rounded.{whole_is, whole_exists}
use Rattle.sj_item.proofs.casts.whole.Goals as goal

pub unreachable-requires : goal.unreachable-requires
unreachable-requires c = whole_exists c.args.number _ c.parts.ensures.decimal (sym c.round_to.ensures.value ∙ c.in-Err.is)

pub returns : goal.returns
returns c = whole_is max_digits c.args.number c.in-Ok.whole (sym c.round_to.ensures.value ∙ c.in-Ok.is)
