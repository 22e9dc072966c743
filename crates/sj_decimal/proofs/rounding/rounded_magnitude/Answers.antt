use Rattle.std.proofs.Common.{◌<◌, ◌≤◌, ◌+◌, ◌-◌, ◌%◌, sym, ◌∙◌, ap, arith}
use Rattle.sj_decimal.proofs.Roundings.{rounded_up, rounded_down, fewer_small}
use Rattle.sj_decimal.proofs.rounding.rounded_magnitude.Goals as goal

pub returns-then-rest-power-clause-value : goal.returns-then-rest-power-clause-value
returns-then-rest-power-clause-value c =
    let half : c.power_of_ten-power.result - c.args.magnitude % c.power_of_ten-power.result ≤ c.args.magnitude % c.power_of_ten-power.result = rw (← c.divided-whole.ensures.rest) c.if-rest-power.true in
    let is = rounded_up c.args.magnitude c.args.scale c.args.places c.power_of_ten-power.result c.requires.fewer c.power_of_ten-power.ensures.value half in
    ap (λ x. x + 1) c.divided-whole.ensures.quotient ∙ sym is

pub returns-then-rest-power-clause-bound : goal.returns-then-rest-power-clause-bound
returns-then-rest-power-clause-bound c =
    omega (arith, c.divided-whole.ensures.quotient, fewer_small c.args.magnitude c.args.scale c.args.places c.power_of_ten-power.result c.requires.fewer c.power_of_ten-power.ensures.value c.requires.magnitude)

pub returns-else-rest-power-clause-value : goal.returns-else-rest-power-clause-value
returns-else-rest-power-clause-value c =
    let less : c.args.magnitude % c.power_of_ten-power.result < c.power_of_ten-power.result - c.args.magnitude % c.power_of_ten-power.result = rw (← c.divided-whole.ensures.rest) c.if-rest-power.false in
    let is = rounded_down c.args.magnitude c.args.scale c.args.places c.power_of_ten-power.result c.requires.fewer c.power_of_ten-power.ensures.value less in
    c.divided-whole.ensures.quotient ∙ sym is
