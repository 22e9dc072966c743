use Rattle.std.proofs.Common.{sym, ◌∙◌}
use Rattle.sj_value.proofs.Rounded.{rounded_prints}
use Rattle.sj_rows.proofs.cast.tabbed_fixed.Goals as goal

pub tabbed_number-requires : goal.tabbed_number-requires
tabbed_number-requires c some =
    rounded_prints c.args.digits c.args.places c.args.number c.in-Ok.rounded c.requires.few c.requires.decimals (sym c.round_to.ensures.value ∙ c.in-Ok.is)
