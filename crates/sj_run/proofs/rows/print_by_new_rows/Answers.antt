use Rattle.std.proofs.Common.{rules, ◌≡◌, ◌≤◌, ◌∙◌, ap, subst, List}
use Rattle.sj_base.specs.Count.{raised}
use Rattle.sj_bound.specs.Bound.{Bound}
use Rattle.sj_page.proofs.Printing.{prints_same}
use Rattle.sj_file.specs.Job.{job_of}
use Rattle.sj_run.specs.Batch.{batch_asked, bounds_in}
use Rattle.sj_run.specs.Output.{prints, cost}
use Rattle.sj_run.proofs.rows.print_by_new_rows.Goals as goal

pub returns-in-Ok-clause-prints : goal.returns-in-Ok-clause-prints
returns-in-Ok-clause-prints g c =
    let same : bounds_in c.as_mut_slice.result.now ≡ (job_of c.args.job.now).statements = ap bounds_in c.as_mut_slice.ensures.value ∙ c.in-Ok.ensures ∙ search rules in
    prints_same _ _ _ _ _ (ap (λ (b : List Bound). prints (batch_asked b c.args.lines.now)) same) c.print_each.ensures.prints

pub returns-in-Ok-clause-costs : goal.returns-in-Ok-clause-costs
returns-in-Ok-clause-costs g c =
    let same : bounds_in c.as_mut_slice.result.now ≡ (job_of c.args.job.now).statements = ap bounds_in c.as_mut_slice.ensures.value ∙ c.in-Ok.ensures ∙ search rules in
    subst (λ (b : List Bound). c.print_each.new.steps ≤ raised c.args.out.now.steps.now (cost (batch_asked b c.args.lines.now))) same c.print_each.ensures.costs
