use Rattle.std.proofs.Common.{sym, ◌∙◌}
use Rattle.sj_value.proofs.Rounded.{rounded_prints}
use Rattle.sj_value.proofs.casts.rounded_number.Goals as goal

pub returns-in-Ok-clause-printable : goal.returns-in-Ok-clause-printable
returns-in-Ok-clause-printable c some =
    rounded_prints c.args.p c.args.s c.args.number c.in-Ok.rounded c.requires.few c.requires.decimals (sym c.round_to.ensures.value ∙ c.in-Ok.is)
