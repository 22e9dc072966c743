use Rattle.sj_decimal.proofs.Comparisons.{opposite_less, opposite_greater}
use Rattle.sj_decimal.proofs.decimal.Decimal.order.Goals as goal

pub returns-then-self-clause-value : goal.returns-then-self-clause-value
returns-then-self-clause-value c =
    rw (← c.self.view_is, ← c.other.view_is)
    (opposite_less c.self.inside.negative c.other.inside.negative c.self.inside.magnitude c.self.inside.scale c.other.inside.magnitude c.other.inside.scale
    c.if-self.true c.if-self-other.true c.self.invariant.1)

pub returns-else-self-clause-value : goal.returns-else-self-clause-value
returns-else-self-clause-value c =
    rw (← c.self.view_is, ← c.other.view_is)
    (opposite_greater c.self.inside.negative c.other.inside.negative c.self.inside.magnitude c.self.inside.scale c.other.inside.magnitude c.other.inside.scale
    c.if-self.false c.if-self-other.true c.other.invariant.1)
