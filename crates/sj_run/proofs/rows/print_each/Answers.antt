use Rattle.std.proofs.Common.{◌<◌, ◌≤◌, ◌∙◌, subst, arith, refl, List, length}
use Rattle.sj_base.specs.Count.{raised}
use Rattle.sj_bound.specs.Bound.{Bound}
use Rattle.sj_page.specs.Pages.{print_state, Printed, Stopped}
use Rattle.sj_page.proofs.Printing.{printing_starts, printing_more, printing_stops}
use Rattle.sj_run.specs.Batch.{bounds_in}
use Rattle.sj_batch.specs.Batch.{line_read}
use Rattle.sj_run.specs.Output.{asked_from, prints, cost}
use Rattle.sj_run.proofs.Batches.{batch_first, batch_first_cost}
use Rattle.sj_batch.proofs.Given.{cost_step, cost_stop}
use Rattle.sj_run.proofs.rows.print_each.Goals as goal

pub loop-line-init : goal.loop-line-init
loop-line-init g c = record { bounds = refl; printing = printing_starts _ _; costs = omega arith }

pub loop-line-preserved : goal.loop-line-preserved
loop-line-preserved g c =
    let side = print_state g.O.Sink.taken g.O.Sink.size g.O.Sink.faults in
    let all : List Bound = bounds_in c.args.rows.now in
    let i = c.loop-line.line-index in
    let x = c.line-item.result in
    let within : i < length c.args.lines.now = omega arith in
    let same = c.loop-line.invariant.bounds in
    let printed = subst (λ (b : List Bound). Printed (prints (asked_from 1 b x.number (line_read x.reading))) (side c.loop-line.out c.loop-line.page) (side c.print_rows.new.out c.print_rows.new.page)) same c.in-Ok.ensures.prints in
    let spent = subst (λ (b : List Bound). c.print_rows.new.steps ≤ raised c.loop-line.steps (cost (asked_from 1 b x.number (line_read x.reading)))) same c.print_rows.ensures.costs in
    record {
      bounds = c.print_rows.ensures.bounds ∙ same;
      printing = printing_more _ _ _ _ _ _ _ c.loop-line.invariant.printing (batch_first all c.args.lines.now i x within c.line-item.is) printed;
      costs = cost_step _ _ _ _ _ _ _ spent (batch_first_cost all c.args.lines.now i x within c.line-item.is) c.loop-line.invariant.costs;
    }

pub returns-in-Err-clause-prints : goal.returns-in-Err-clause-prints
returns-in-Err-clause-prints g c =
    let side = print_state g.O.Sink.taken g.O.Sink.size g.O.Sink.faults in
    let all : List Bound = bounds_in c.args.rows.now in
    let i = c.loop-line.line-index in
    let x = c.line-item.result in
    let within : i < length c.args.lines.now = omega arith in
    let stopped = subst (λ (b : List Bound). Stopped (prints (asked_from 1 b x.number (line_read x.reading))) (side c.loop-line.out c.loop-line.page) (side c.print_rows.new.out c.print_rows.new.page) c.in-Err.stop) c.loop-line.invariant.bounds c.in-Err.ensures.prints in
    printing_stops _ _ _ _ _ _ _ _ c.loop-line.invariant.printing (batch_first all c.args.lines.now i x within c.line-item.is) stopped

pub returns-in-Err-clause-costs : goal.returns-in-Err-clause-costs
returns-in-Err-clause-costs g c =
    let all : List Bound = bounds_in c.args.rows.now in
    let i = c.loop-line.line-index in
    let x = c.line-item.result in
    let within : i < length c.args.lines.now = omega arith in
    let spent = subst (λ (b : List Bound). c.print_rows.new.steps ≤ raised c.loop-line.steps (cost (asked_from 1 b x.number (line_read x.reading)))) c.loop-line.invariant.bounds c.print_rows.ensures.costs in
    cost_stop _ _ _ _ _ _ _ spent (batch_first_cost all c.args.lines.now i x within c.line-item.is) c.loop-line.invariant.costs

pub returns-in-Err-clause-bounds : goal.returns-in-Err-clause-bounds
returns-in-Err-clause-bounds g c = c.print_rows.ensures.bounds ∙ c.loop-line.invariant.bounds
