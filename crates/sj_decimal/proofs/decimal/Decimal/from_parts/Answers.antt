use Rattle.std.proofs.Common.{◌≡◌, IfSome, ℤ, pos, int_lt, subst, ap, ◌∙◌, to_z, of_z, to_z-of_z}
use Rattle.std.specs.Int.{w128}
use Rattle.sj_decimal.specs.Signed.{signed}
use Rattle.sj_decimal.specs.Normal.{IsSameNumber}
use Rattle.sj_decimal.proofs.NormalForm.{some_same, signed_from_test}
use Rattle.sj_decimal.proofs.decimal.Decimal.from_parts.Goals as goal

pub returns-clause-same : goal.returns-clause-same
returns-clause-same c =
    let read : ℤ = to_z w128 (of_z w128 c.args.c) in
    let same : read ≡ c.args.c = to_z-of_z c.ranges.c in
    let parts : signed (int_lt read (pos 0)) c.unsigned_abs.result ≡ c.args.c =
    ap (signed (int_lt read (pos 0))) c.unsigned_abs.ensures.value ∙ signed_from_test read ∙ same in
    subst (λ (z : ℤ). IfSome c.normalized.result (λ d. IsSameNumber d (z, c.args.s))) parts
    (some_same (signed (int_lt read (pos 0)) c.unsigned_abs.result, c.args.s) c.normalized.result c.normalized.ensures.value)
