use Rattle.std.proofs.Common.{◌∙◌, arith}
use Rattle.sj_decimal.specs.Signed.{signed}
use Rattle.sj_decimal.proofs.NormalForm.{exact_small, IsDecimal-normal, normal_from_reduced}
use Rattle.sj_decimal.proofs.decimal.Decimal.from_short.Goals as goal

pub exact-requires : goal.exact-requires
exact-requires c =
    rw (normal_from_reduced c.args.negative c.args.magnitude c.args.scale c.reduce_short-magnitude.result c.reduce_short-magnitude.ensures)
    (IsDecimal-normal (signed c.args.negative c.args.magnitude, c.args.scale) (exact_small c.args.negative c.args.magnitude c.args.scale (omega arith) c.requires))

pub returns-clause-exact : goal.returns-clause-exact
returns-clause-exact c = exact_small c.args.negative c.args.magnitude c.args.scale (omega arith) c.requires

pub returns-clause-value : goal.returns-clause-value
returns-clause-value c = c.exact.ensures ∙ normal_from_reduced c.args.negative c.args.magnitude c.args.scale c.reduce_short-magnitude.result c.reduce_short-magnitude.ensures
