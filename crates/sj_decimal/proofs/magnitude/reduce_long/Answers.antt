use Rattle.std.proofs.Common.{sym, ◌∙◌, arith}
use Rattle.sj_decimal.proofs.Reduced.{reduced_same, reduced_tenth}
use Rattle.sj_decimal.proofs.magnitude.reduce_long.Goals as goal

pub loop-places-preserved : goal.loop-places-preserved
loop-places-preserved c =
    sym (reduced_tenth c.loop-places.long c.loop-places.places c.loop-places-test.true c.if-long-eq0.true) ∙ c.loop-places.invariant

pub returns-else-long-eq0 : goal.returns-else-long-eq0
returns-else-long-eq0 c =
    sym (reduced_same c.loop-places.long c.loop-places.places (λ _. c.if-long-eq0.false)) ∙ c.loop-places.invariant

pub returns-after-loop-places : goal.returns-after-loop-places
returns-after-loop-places c =
    sym (reduced_same c.loop-places.long c.loop-places.places (λ h. absurd (omega (arith, h, c.loop-places-test.false)))) ∙ c.loop-places.invariant
