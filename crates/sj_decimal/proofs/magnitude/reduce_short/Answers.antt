use Rattle.std.proofs.Common.{sym, ◌∙◌, arith}
use Rattle.sj_decimal.proofs.Reduced.{reduced_zero, reduced_same, reduced_tenth}
use Rattle.sj_decimal.proofs.magnitude.reduce_short.Goals as goal

pub returns-then-magnitude-eq0 : goal.returns-then-magnitude-eq0
returns-then-magnitude-eq0 c = rw c.if-magnitude-eq0.true (sym (reduced_zero c.args.scale))

pub loop-places-preserved : goal.loop-places-preserved
loop-places-preserved c =
    sym (reduced_tenth c.loop-places.left c.loop-places.places c.loop-places-test.true c.if-left-eq0.true) ∙ c.loop-places.invariant

pub returns-else-left-eq0 : goal.returns-else-left-eq0
returns-else-left-eq0 c =
    sym (reduced_same c.loop-places.left c.loop-places.places (λ _. c.if-left-eq0.false)) ∙ c.loop-places.invariant

pub returns-after-loop-places : goal.returns-after-loop-places
returns-after-loop-places c =
    sym (reduced_same c.loop-places.left c.loop-places.places (λ h. absurd (omega (arith, h, c.loop-places-test.false)))) ∙ c.loop-places.invariant
