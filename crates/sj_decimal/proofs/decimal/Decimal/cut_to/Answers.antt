use Rattle.std.proofs.Common.{◌<◌, ◌≤◌, ◌^◌, sym, ◌∙◌, arith}
use Rattle.sj_decimal.proofs.Operations.{limited_exact}
use Rattle.sj_decimal.proofs.NormalForm.{exact_small}
use Rattle.sj_decimal.proofs.Roundings.{rounded_within_digits, rounded_past_digits}
use Rattle.sj_decimal.proofs.decimal.Decimal.cut_to.Goals as goal

pub returns-then-magnitude-power_of_ten-clause-value : goal.returns-then-magnitude-power_of_ten-clause-value
returns-then-magnitude-power_of_ten-clause-value c =
    let many : 10 ^ c.args.p ≤ c.rounded_magnitude-magnitude.result = rw (← c.power_of_ten.ensures.value) c.if-magnitude-power_of_ten.true in
    rw (← c.self.view_is)
    (sym (rounded_past_digits c.self.inside.negative c.self.inside.magnitude c.self.inside.scale c.args.p c.args.s c.rounded_magnitude-magnitude.result c.self.invariant.1 (rw (← c.value.ensures) c.rounded_magnitude-magnitude.ensures.value) many))

-- a number with at most 38 digits and decimals is exact
pub returns-clause-value : goal.returns-clause-value
returns-clause-value c =
    let few : c.rounded_magnitude-magnitude.result < 10 ^ c.args.p = rw (← c.power_of_ten.ensures.value) c.if-magnitude-power_of_ten.false in
    let exact = exact_small c.self.inside.negative c.rounded_magnitude-magnitude.result c.args.s c.rounded_magnitude-magnitude.ensures.bound (omega arith) in
    rw (← c.self.view_is)
    (c.limited.ensures.value
    ∙ limited_exact c.self.inside.negative c.rounded_magnitude-magnitude.result c.args.s c.rounded_magnitude-magnitude.ensures.bound exact
    ∙ sym (rounded_within_digits c.self.inside.negative c.self.inside.magnitude c.self.inside.scale c.args.p c.args.s c.rounded_magnitude-magnitude.result c.self.invariant.1 (rw (← c.value.ensures) c.rounded_magnitude-magnitude.ensures.value) few))
