use Rattle.std.proofs.Common.{◌<◌, ◌≤◌, ◌∙◌, arith}
use Rattle.sj_decimal.specs.Limits.{max_scale, magnitude_limit}
use Rattle.sj_decimal.specs.Signed.{signed}
use Rattle.sj_decimal.proofs.NormalForm.{exact_from_reduced, reduced_from_exact, IsDecimal-normal, normal_from_reduced}
use Rattle.sj_decimal.proofs.decimal.Decimal.normalized.Goals as goal
use Rattle.sj_decimal.proofs.decimal.Decimal.normalized.Goals.{then-magnitude-ge-LIMIT-via-then-magnitude-ge-LIMIT, then-magnitude-ge-LIMIT-via-else-magnitude-ge-LIMIT+then-scale-gt-MAX_SCALE}

pub returns-then-magnitude-ge-LIMIT-clause-value :
    goal.returns-then-magnitude-ge-LIMIT-clause-value
returns-then-magnitude-ge-LIMIT-clause-value c h =
    let small : (c.reduce-magnitude.result.0 < magnitude_limit) × (c.reduce-magnitude.result.1 ≤ max_scale) =
    reduced_from_exact c.args.negative c.args.magnitude c.args.scale c.reduce-magnitude.result c.reduce-magnitude.ensures h in
    elim c.then-magnitude-ge-LIMIT.branch [
      | then-magnitude-ge-LIMIT-via-then-magnitude-ge-LIMIT w ↦ omega arith
      | then-magnitude-ge-LIMIT-via-else-magnitude-ge-LIMIT+then-scale-gt-MAX_SCALE w ↦ omega arith
    ]

pub exact-requires : goal.exact-requires
exact-requires c =
    rw (normal_from_reduced c.args.negative c.args.magnitude c.args.scale c.reduce-magnitude.result c.reduce-magnitude.ensures)
    (IsDecimal-normal (signed c.args.negative c.args.magnitude, c.args.scale)
    (exact_from_reduced c.args.negative c.args.magnitude c.args.scale c.reduce-magnitude.result c.reduce-magnitude.ensures c.if-magnitude-ge-LIMIT.false c.if-scale-gt-MAX_SCALE.false))

pub returns-clause-value : goal.returns-clause-value
returns-clause-value c = (
  exact_from_reduced c.args.negative c.args.magnitude c.args.scale c.reduce-magnitude.result c.reduce-magnitude.ensures c.if-magnitude-ge-LIMIT.false c.if-scale-gt-MAX_SCALE.false,
  c.exact.ensures ∙ normal_from_reduced c.args.negative c.args.magnitude c.args.scale c.reduce-magnitude.result c.reduce-magnitude.ensures,
)
