use Rattle.std.proofs.Common.{◌≢◌, ◌-◌, max, sym, ap, ◌∙◌, mul-pos, pos_of_ne-zero}
use Rattle.sj_decimal.specs.Arithmetic.{limited, rest}
use Rattle.sj_decimal.proofs.Powers.{power_pos}
use Rattle.sj_decimal.proofs.Operations.{larger_none, larger_some}
use Rattle.sj_decimal.proofs.Divisions.{divides, rest_signed}
use Rattle.sj_decimal.proofs.decimal.Decimal.rem.Goals as goal

pub returns-in_default-clause-value : goal.returns-in_default-clause-value
returns-in_default-clause-value c =
    let some : c.other.inside.magnitude ≢ 0 = rw (← c.value.ensures) c.if-value-eq0.false in
    rw (← c.self.view_is, ← c.other.view_is)
    (sym (divides c.other.inside.negative c.other.inside.magnitude c.other.inside.scale _ some
    ∙ larger_none rest c.self.inside.negative c.other.inside.negative c.self.inside.magnitude c.self.inside.scale c.other.inside.magnitude c.other.inside.scale
    (rw (← c.value-2.ensures, ← c.value-3.ensures) (sym c.magnitudes.ensures ∙ c.in_default.is))))

pub nonzero_rem-left : goal.nonzero_rem-left
nonzero_rem-left c =
    let some : c.other.inside.magnitude ≢ 0 = rw (← c.value.ensures) c.if-value-eq0.false in
    let aligned = larger_some rest c.self.inside.negative c.other.inside.negative c.self.inside.magnitude c.self.inside.scale c.other.inside.magnitude c.other.inside.scale c.in-Some.left c.in-Some.right c.in-Some.scale
    (rw (← c.value-2.ensures, ← c.value-3.ensures) (sym c.magnitudes.ensures ∙ c.in-Some.is)) in
    rw aligned.right_is (mul-pos (pos_of_ne-zero some) (power_pos (max c.self.inside.scale c.other.inside.scale - c.other.inside.scale)))

pub returns-clause-value : goal.returns-clause-value
returns-clause-value c =
    let some : c.other.inside.magnitude ≢ 0 = rw (← c.value.ensures) c.if-value-eq0.false in
    let aligned = larger_some rest c.self.inside.negative c.other.inside.negative c.self.inside.magnitude c.self.inside.scale c.other.inside.magnitude c.other.inside.scale c.in-Some.left c.in-Some.right c.in-Some.scale
    (rw (← c.value-2.ensures, ← c.value-3.ensures) (sym c.magnitudes.ensures ∙ c.in-Some.is)) in
    rw (← c.self.view_is, ← c.other.view_is)
    (c.limited.ensures.value
    ∙ ap (λ z. limited z c.in-Some.scale) (sym (rest_signed c.self.inside.negative c.other.inside.negative c.in-Some.left c.in-Some.right))
    ∙ sym aligned.result
    ∙ sym (divides c.other.inside.negative c.other.inside.magnitude c.other.inside.scale _ some))
