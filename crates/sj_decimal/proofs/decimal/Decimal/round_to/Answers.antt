use Rattle.std.proofs.Common.{◌<◌, ◌≤◌, ◌+◌, ◌-◌, ◌^◌, sym}
use Rattle.sj_decimal.proofs.Roundings.{kept_within_digits, kept_past_digits}
use Rattle.sj_decimal.proofs.decimal.Decimal.round_to.Goals as goal

pub returns-then-value-power_of_ten-clause-value : goal.returns-then-value-power_of_ten-clause-value
returns-then-value-power_of_ten-clause-value c =
    let few : c.self.inside.magnitude < 10 ^ (c.args.p - c.args.s + c.self.inside.scale) = rw (← c.power_of_ten.ensures.value, ← c.value.ensures) c.if-value-power_of_ten.true in
    rw (← c.self.view_is)
    (sym (kept_within_digits c.self.inside.negative c.self.inside.magnitude c.self.inside.scale c.args.p c.args.s c.self.invariant.1 c.self.invariant.0 c.if-self-s.true c.requires.decimals few))

pub returns-else-value-power_of_ten-clause-value : goal.returns-else-value-power_of_ten-clause-value
returns-else-value-power_of_ten-clause-value c =
    let many : 10 ^ (c.args.p - c.args.s + c.self.inside.scale) ≤ c.self.inside.magnitude = rw (← c.power_of_ten.ensures.value, ← c.value.ensures) c.if-value-power_of_ten.false in
    rw (← c.self.view_is)
    (sym (kept_past_digits c.self.inside.negative c.self.inside.magnitude c.self.inside.scale c.args.p c.args.s c.self.invariant.1 c.if-self-s.true c.requires.decimals many))
