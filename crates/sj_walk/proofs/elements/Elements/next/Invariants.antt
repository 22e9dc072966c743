use Rattle.sj_step.specs.Takes.{Onward}
use Rattle.sj_walk.specs.Walk.{elements_left}
use Rattle.sj_walk.proofs.elements.Elements.next.Given as goal

abbrev pub invariant-skipping : goal.invariant-skipping
invariant-skipping l = Onward (elements_left l.initial.self) l.initial.steps (elements_left l.self) l.steps

abbrev pub decreases-skipping : goal.decreases-skipping
decreases-skipping l = l.self.skip
