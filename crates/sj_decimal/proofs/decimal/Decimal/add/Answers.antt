use Rattle.std.proofs.Common.{◌+ℤ◌, sym, ap, ◌∙◌}
use Rattle.sj_decimal.specs.Arithmetic.{limited}
use Rattle.sj_decimal.proofs.Operations.{AreAligned, larger_none, larger_some}
use Rattle.sj_decimal.proofs.decimal.Decimal.add.Goals as goal

pub returns-in_default-clause-value : goal.returns-in_default-clause-value
returns-in_default-clause-value c =
    rw (← c.self.view_is, ← c.other.view_is)
    (sym (larger_none (λ x y. x +ℤ y) c.self.inside.negative c.other.inside.negative c.self.inside.magnitude c.self.inside.scale c.other.inside.magnitude c.other.inside.scale
    (rw (← c.value.ensures, ← c.value-2.ensures) (sym c.magnitudes.ensures ∙ c.in_default.is))))

pub signed_sum-negative-requires-clause-left : goal.signed_sum-negative-requires-clause-left
signed_sum-negative-requires-clause-left c =
    (larger_some (λ x y. x +ℤ y) c.self.inside.negative c.other.inside.negative c.self.inside.magnitude c.self.inside.scale c.other.inside.magnitude c.other.inside.scale c.in-Some.left c.in-Some.right c.in-Some.scale
    (rw (← c.value.ensures, ← c.value-2.ensures) (sym c.magnitudes.ensures ∙ c.in-Some.is))).left

pub signed_sum-negative-requires-clause-right : goal.signed_sum-negative-requires-clause-right
signed_sum-negative-requires-clause-right c =
    (larger_some (λ x y. x +ℤ y) c.self.inside.negative c.other.inside.negative c.self.inside.magnitude c.self.inside.scale c.other.inside.magnitude c.other.inside.scale c.in-Some.left c.in-Some.right c.in-Some.scale
    (rw (← c.value.ensures, ← c.value-2.ensures) (sym c.magnitudes.ensures ∙ c.in-Some.is))).right

pub returns-clause-value : goal.returns-clause-value
returns-clause-value c =
    let aligned : AreAligned (λ x y. x +ℤ y) c.self.inside.negative c.other.inside.negative c.self.inside.magnitude c.self.inside.scale c.other.inside.magnitude c.other.inside.scale c.in-Some.left c.in-Some.right c.in-Some.scale =
    larger_some (λ x y. x +ℤ y) c.self.inside.negative c.other.inside.negative c.self.inside.magnitude c.self.inside.scale c.other.inside.magnitude c.other.inside.scale c.in-Some.left c.in-Some.right c.in-Some.scale
    (rw (← c.value.ensures, ← c.value-2.ensures) (sym c.magnitudes.ensures ∙ c.in-Some.is)) in
    rw (← c.self.view_is, ← c.other.view_is)
    (c.limited.ensures.value ∙ ap (λ z. limited z c.in-Some.scale) c.signed_sum-negative.ensures ∙ sym aligned.result)
