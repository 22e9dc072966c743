use Rattle.std.proofs.Common.{ap, ◌≡◌, ◌≤◌, ◌*◌, ◌^◌, arith}
use Rattle.sj_decimal.specs.Limits.{magnitude_limit}
use Rattle.sj_decimal.proofs.Powers.{short_product, scaled_too_far, past_quotient}
use Rattle.sj_decimal.proofs.magnitude.scaled.Goals as goal

pub returns-then-places-le-SHORT_SCALE : goal.returns-then-places-le-SHORT_SCALE
returns-then-places-le-SHORT_SCALE c = (
  short_product c.args.magnitude c.args.places c.if-magnitude.true c.if-places-le-SHORT_SCALE.true,
  ap (λ p. c.args.magnitude * p) c.power_of_ten.ensures.value,
)

pub returns-then-places-gt-MAX_SCALE : goal.returns-then-places-gt-MAX_SCALE
returns-then-places-gt-MAX_SCALE c h =
    let far : magnitude_limit ≤ c.args.magnitude * 10 ^ c.args.places =
    scaled_too_far c.args.magnitude c.args.places (omega (arith, c.if-magnitude-eq0.false)) (omega arith) in
    omega (arith, h, far)

pub returns-then-magnitude-power : goal.returns-then-magnitude-power
returns-then-magnitude-power c h =
    let p : c.power_of_ten-power.result ≡ 10 ^ c.args.places = c.power_of_ten-power.ensures.value in
    let over : magnitude_limit ≤ c.args.magnitude * c.power_of_ten-power.result =
    past_quotient c.args.magnitude magnitude_limit c.power_of_ten-power.result c.power_of_ten-power.ensures.positive c.if-magnitude-power.true in
    let same : magnitude_limit ≤ c.args.magnitude * 10 ^ c.args.places = rw p at over in
    omega (arith, h, same)
