use Rattle.std.proofs.Common.{◌^◌, not, sym, ap, ◌∙◌}
use Rattle.sj_decimal.specs.Signed.{signed}
use Rattle.sj_decimal.specs.Magnitudes.{quotient_toward}
use Rattle.sj_decimal.proofs.Powers.{power_pos}
use Rattle.sj_decimal.proofs.Roundings.{ceiling_signed}
use Rattle.sj_decimal.proofs.decimal.Decimal.ceiling.Goals as goal

pub returns-clause-value : goal.returns-clause-value
returns-clause-value c =
    rw (← c.self.view_is)
    (c.whole.ensures.value
    ∙ ap (λ n. (signed c.self.inside.negative n, 0)) (c.whole_magnitude.ensures.value ∙ ap (λ m. quotient_toward (not c.self.inside.negative) m (10 ^ c.self.inside.scale)) c.value.ensures)
    ∙ ap (λ z. (z, 0)) (sym (ceiling_signed c.self.inside.negative c.self.inside.magnitude (10 ^ c.self.inside.scale) (power_pos c.self.inside.scale))))
