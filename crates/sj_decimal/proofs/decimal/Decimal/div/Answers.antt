use Rattle.std.proofs.Common.{◌≢◌, ◌+◌, ◌-◌, ◌/◌, ◌^◌, sym, ap, ◌∙◌, arith, pos_of_ne-zero, not, le_of_lt}
use mathlib.Core.Bool.{beq}
use Rattle.sj_decimal.specs.Signed.{signed}
use Rattle.sj_decimal.specs.Arithmetic.{exact_or_range, limited}
use Rattle.sj_decimal.proofs.Divisions.{divides, quotient_more, quotient_fewer, limited_is_exact, cut_small}
use Rattle.sj_decimal.proofs.decimal.Decimal.div.Goals as goal

pub returns-then-self-places-clause-value : goal.returns-then-self-places-clause-value
returns-then-self-places-clause-value c =
    let some : c.other.inside.magnitude ≢ 0 = rw (← c.value.ensures) c.if-value-eq0.false in
    rw (← c.self.view_is, ← c.other.view_is)
    ((rw (c.value-then-self-places.ensures, c.value-then-self-places-2.ensures) at c.limited.ensures.value)
    ∙ ap (λ p. limited (signed (not (beq c.self.inside.negative c.other.inside.negative)) (c.self.inside.magnitude / c.other.inside.magnitude / p)) 16) c.power_of_ten-cut.ensures.value
    ∙ limited_is_exact (not (beq c.self.inside.negative c.other.inside.negative)) (c.self.inside.magnitude / c.other.inside.magnitude / 10 ^ (c.self.inside.scale - (c.other.inside.scale + 16))) 16
    (cut_small c.self.inside.negative c.self.inside.magnitude c.self.inside.scale c.other.inside.magnitude (10 ^ (c.self.inside.scale - (c.other.inside.scale + 16))) c.self.invariant.0) (omega arith)
    ∙ ap (λ z. exact_or_range (z, 16)) (sym (quotient_fewer c.self.inside.negative c.other.inside.negative c.self.inside.magnitude c.self.inside.scale c.other.inside.magnitude c.other.inside.scale
    (pos_of_ne-zero some) (le_of_lt c.if-self-places.true)))
    ∙ sym (divides c.other.inside.negative c.other.inside.magnitude c.other.inside.scale _ some))

pub returns-clause-value : goal.returns-clause-value
returns-clause-value c =
    let some : c.other.inside.magnitude ≢ 0 = rw (← c.value.ensures) c.if-value-eq0.false in
    rw (← c.self.view_is, ← c.other.view_is)
    ((rw (c.value-2.ensures, c.value-3.ensures) at c.quotient.ensures.value)
    ∙ ap (λ z. exact_or_range (z, 16)) (sym (quotient_more c.self.inside.negative c.other.inside.negative c.self.inside.magnitude c.self.inside.scale c.other.inside.magnitude c.other.inside.scale
    (pos_of_ne-zero some) c.if-self-places.false))
    ∙ sym (divides c.other.inside.negative c.other.inside.magnitude c.other.inside.scale _ some))
