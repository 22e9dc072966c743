use Rattle.std.proofs.Common.{◌≤◌, ◌∙◌, List, sym, subst, arith}
use Rattle.sj_base.specs.Count.{raised}
use Rattle.sj_bound.specs.Bound.{Bound}
use Rattle.sj_page.specs.Pages.{Print, Printed, Stopped}
use Rattle.sj_page.proofs.Printing.{prints_same, prints_more, stopped_early}
use Rattle.sj_file.specs.Job.{job_of}
use Rattle.sj_stream.specs.Out.{state_at}
use Rattle.sj_run.specs.Batch.{batch_asked}
use Rattle.sj_run.specs.Output.{prints, cost}
use Rattle.sj_run.proofs.Batches.{both_prints, both_cost}
use Rattle.sj_run.proofs.rows.print_batch.Goals as goal

pub returns-in-Ok-clause-prints : goal.returns-in-Ok-clause-prints
returns-in-Ok-clause-prints g c =
    let side = state_at g.O.Sink in
    let K : List Bound = (job_of c.args.job.now).statements in
    let parts = c.split_at_mut-front.result in
    let printed = subst (λ (b : List Bound). Printed (prints (batch_asked b parts.0.now)) (side c.args.out.now) (side c.print_by_kept_rows.new.out)) c.requires.rows c.in-Ok.ensures.prints in
    prints_same _ _ _ _ _ (sym (both_prints K c.args.batch.now.lines.items parts.0.now parts.1.now (sym c.lines_mut.ensures ∙ c.split_at_mut-front.ensures.value)))
    (prints_more _ _ _ _ _ _ printed c.print_by_new_rows.ensures.prints)

pub returns-in-Ok-clause-costs : goal.returns-in-Ok-clause-costs
returns-in-Ok-clause-costs g c =
    let K : List Bound = (job_of c.args.job.now).statements in
    let parts = c.split_at_mut-front.result in
    let spent = subst (λ (b : List Bound). c.print_by_kept_rows.new.out.steps.now ≤ raised c.args.out.now.steps.now (cost (batch_asked b parts.0.now))) c.requires.rows c.print_by_kept_rows.ensures.costs in
    omega (arith, both_cost K c.args.batch.now.lines.items parts.0.now parts.1.now (sym c.lines_mut.ensures ∙ c.split_at_mut-front.ensures.value), spent, c.print_by_new_rows.ensures.costs)

pub returns-in-Err-clause-prints : goal.returns-in-Err-clause-prints
returns-in-Err-clause-prints g c =
    let side = state_at g.O.Sink in
    let K : List Bound = (job_of c.args.job.now).statements in
    let parts = c.split_at_mut-front.result in
    let stopped = subst (λ (b : List Bound). Stopped (prints (batch_asked b parts.0.now)) (side c.args.out.now) (side c.print_by_kept_rows.new.out) c.in-Err.stop) c.requires.rows c.in-Err.ensures.prints in
    subst (λ (p : Print). Stopped p (side c.args.out.now) (side c.print_by_kept_rows.new.out) c.in-Err.stop)
    (sym (both_prints K c.args.batch.now.lines.items parts.0.now parts.1.now (sym c.lines_mut.ensures ∙ c.split_at_mut-front.ensures.value)))
    (stopped_early (prints (batch_asked K parts.0.now)) (prints (batch_asked K parts.1.now)) _ _ c.in-Err.stop stopped)

pub returns-in-Err-clause-costs : goal.returns-in-Err-clause-costs
returns-in-Err-clause-costs g c =
    let K : List Bound = (job_of c.args.job.now).statements in
    let parts = c.split_at_mut-front.result in
    let spent = subst (λ (b : List Bound). c.print_by_kept_rows.new.out.steps.now ≤ raised c.args.out.now.steps.now (cost (batch_asked b parts.0.now))) c.requires.rows c.print_by_kept_rows.ensures.costs in
    omega (arith, both_cost K c.args.batch.now.lines.items parts.0.now parts.1.now (sym c.lines_mut.ensures ∙ c.split_at_mut-front.ensures.value), spent)
