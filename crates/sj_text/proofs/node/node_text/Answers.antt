use Rattle.std.proofs.Common.{sym, subst}
use Rattle.sj_doc.specs.Tours.{Touring}
use Rattle.sj_doc.specs.Listed.{node_id, node_tree}
use Rattle.sj_doc.specs.Visits.{visited}
use Rattle.sj_text.specs.declared.place.Place.TheVariants.{First}
use Rattle.sj_text.proofs.Printings.{IsUnderWay, sets_out, arrives, brings, is_cut}
use Rattle.sj_text.proofs.node.node_text.Goals as goal

pub loop-visit-init : goal.loop-visit-init
loop-visit-init c =
    let t = node_tree c.args.node in
    subst (λ (left : Touring). IsUnderWay c.args.out.now t c.args.steps.now c.args.out.now First left c.args.steps.now) (sym c.tour-tour.ensures)
    (sets_out c.args.out.now t c.args.steps.now (node_id c.args.node))

pub returns-in_err-visit_text-clause-err : goal.returns-in_err-visit_text-clause-err
returns-in_err-visit_text-clause-err c =
    let t = node_tree c.args.node in
    let v = visited c.in-Some.visit in
    is_cut c.from_residual.result c.args.out.now t c.args.steps.now c.loop-visit.out c.loop-visit.place v c.next.new.self c.next.new.steps c.visit_text.new.out
    (arrives c.args.out.now t c.args.steps.now c.loop-visit.out c.loop-visit.place v c.loop-visit.tour c.next.new.self c.loop-visit.steps c.next.new.steps c.loop-visit.invariant
    c.in-Some.ensures.visit.0 c.in-Some.ensures.visit.1 c.in-Some.ensures.step)
    c.in_err-visit_text.ensures.err

pub loop-visit-preserved : goal.loop-visit-preserved
loop-visit-preserved c =
    let t = node_tree c.args.node in
    let v = visited c.in-Some.visit in
    brings c.args.out.now t c.args.steps.now c.loop-visit.out c.loop-visit.place v c.next.new.self c.next.new.steps c.visit_text.new.out c.after-place.result
    (arrives c.args.out.now t c.args.steps.now c.loop-visit.out c.loop-visit.place v c.loop-visit.tour c.next.new.self c.loop-visit.steps c.next.new.steps c.loop-visit.invariant
    c.in-Some.ensures.visit.0 c.in-Some.ensures.visit.1 c.in-Some.ensures.step)
    c.in_ok-visit_text.ensures.ok c.after-place.ensures
