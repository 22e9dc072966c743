use Rattle.std.proofs.Common.{◌+◌, ◌-◌, ◌/◌, ◌^◌, sym, ap, ◌∙◌}
use Rattle.sj_decimal.specs.Magnitudes.{quotient_toward}
use Rattle.sj_decimal.proofs.Roundings.{raised_even}
use Rattle.sj_decimal.proofs.rounding.whole_magnitude.Goals as goal
use Rattle.sj_decimal.proofs.rounding.whole_magnitude.Goals.{else-away-via-then-away+else-rest-ne0, else-away-via-else-away}

pub returns-else-away-clause-value : goal.returns-else-away-clause-value
returns-else-away-clause-value c =
    elim c.else-away.branch [
      | else-away-via-then-away+else-rest-ne0 w ↦
          c.divided-whole.ensures.quotient ∙ raised_even c.args.magnitude c.power_of_ten.result c.power_of_ten.ensures.positive (sym c.divided-whole.ensures.rest ∙ w.if-rest-ne0.false)
          ∙ ap (λ p. (c.args.magnitude + (p - 1)) / p) c.power_of_ten.ensures.value
          ∙ ap (λ b. quotient_toward b c.args.magnitude (10 ^ c.args.scale)) (sym w.if-away.true)
      | else-away-via-else-away w ↦
          c.divided-whole.ensures.quotient ∙ ap (λ p. c.args.magnitude / p) c.power_of_ten.ensures.value
          ∙ ap (λ b. quotient_toward b c.args.magnitude (10 ^ c.args.scale)) (sym w.if-away.false)
    ]
