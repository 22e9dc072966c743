use Rattle.std.proofs.Common.{ap, ◌∙◌}
use Rattle.sj_step.proofs.Runs.{run, run_skip, run_give}
use Rattle.sj_walk.proofs.Walking.{onward_visit, takes_give}
use Rattle.sj_doc.specs.Listed.{member_of}
use Rattle.sj_walk.proofs.elements.Elements.next.Goals as goal

pub skipping-preserved-in-Some : goal.skipping-preserved-in-Some
skipping-preserved-in-Some c =
    onward_visit _ _ _ _ _ _ c.skipping.invariant
    (ap (run c.skipping.self.skip c.skipping.self.count) c.in-Some.ensures.child ∙ run_skip c.skipping.self.skip c.skipping.self.count (member_of c.in-Some.field-0) c.next.new.self c.skipping-test.true)
    c.in-Some.ensures.step

pub returns-in-Some-next : goal.returns-in-Some-next
returns-in-Some-next c =
    takes_give _ _ _ _ _ _ _ c.skipping.invariant
    (ap (run c.skipping.self.skip c.skipping.self.count) c.in-Some-next.ensures.child ∙ run_give c.skipping.self.skip c.skipping.self.count (member_of c.in-Some-next.element) c.next-then-self-gt0.new.self c.skipping-test.false c.if-self-gt0.true)
    c.in-Some-next.ensures.step
