use Rattle.std.proofs.Common.{◌≤◌, ◌*◌, ◌*ℤ◌, ◌+◌, sym, arith}
use Rattle.sj_decimal.specs.Limits.{magnitude_limit}
use Rattle.sj_decimal.specs.Signed.{signed}
use Rattle.sj_decimal.proofs.Operations.{limited_big, unsigned_abs-product}
use Rattle.sj_decimal.proofs.decimal.Decimal.mul.Goals as goal

pub returns-in_default-clause-value : goal.returns-in_default-clause-value
returns-in_default-clause-value c =
    let read : magnitude_limit ≤ c.value.result * c.value-2.result = omega (arith, c.in_default.ensures {u = tt}) in
    let over : magnitude_limit ≤ c.self.inside.magnitude * c.other.inside.magnitude = rw (← c.value.ensures, ← c.value-2.ensures) read in
    rw (← c.self.view_is, ← c.other.view_is)
    (sym (limited_big (signed c.self.inside.negative c.self.inside.magnitude *ℤ signed c.other.inside.negative c.other.inside.magnitude) (c.self.inside.scale + c.other.inside.scale)
    (rw (unsigned_abs-product c.self.inside.negative c.other.inside.negative c.self.inside.magnitude c.other.inside.magnitude) over)))
