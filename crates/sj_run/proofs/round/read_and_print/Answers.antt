use Rattle.std.proofs.Common.{◌∙◌, refl, subst, arith}
use Rattle.sj_page.proofs.Printing.{printing_starts, printing_more, printing_done, printing_stops, printing_memory}
use Rattle.sj_file.specs.Job.{job_of}
use Rattle.sj_stream.proofs.Loans.{loans_stay, loans_on}
use Rattle.sj_batch.specs.declared.batch.Behind.{Behind}
use Rattle.sj_batch.specs.Batch.{ReadOn}
use Rattle.sj_batch.proofs.WaitingLines.{drained_more}
use Rattle.sj_run.proofs.Batches.{waiting_prints, waiting_cost, none_waits}
use Rattle.sj_batch.proofs.Given.{cost_step, cost_stop}
use Rattle.sj_run.proofs.round.read_and_print.Goals as goal

pub loop-behind-init : goal.loop-behind-init
loop-behind-init g c = record { printing = printing_starts _ _; costs = omega arith; kept = refl; rows = c.requires.rows; lent = loans_stay c.args.out.now }

pub returns-in-Err-clause-prints : goal.returns-in-Err-clause-prints
returns-in-Err-clause-prints g c = printing_memory _ _ _ _ c.loop-behind.invariant.printing

pub returns-in-Err-print_batch-clause-prints : goal.returns-in-Err-print_batch-clause-prints
returns-in-Err-print_batch-clause-prints g c =
    printing_stops _ _ _ _ _ _ _ _ c.loop-behind.invariant.printing (waiting_prints (job_of c.args.job.now) _ _ _ _ _ c.in-Ok.ensures refl) c.in-Err-print_batch.ensures.prints

pub returns-in-Err-print_batch-clause-costs : goal.returns-in-Err-print_batch-clause-costs
returns-in-Err-print_batch-clause-costs g c =
    cost_stop _ _ _ _ _ _ _ c.print_batch.ensures.costs (waiting_cost (job_of c.args.job.now) _ _ _ _ _ c.in-Ok.ensures refl) c.loop-behind.invariant.costs

pub returns-in-Nothing-clause-prints : goal.returns-in-Nothing-clause-prints
returns-in-Nothing-clause-prints g c =
    let read = subst (λ (b : Behind). ReadOn c.args.job.now.keys c.loop-behind.lines c.read_on.new.waiting c.read_on.new.self.lines.items b) c.in-Nothing.is c.in-Ok.ensures in
    printing_done _ _ _ _ (printing_more _ _ _ _ _ _ _ c.loop-behind.invariant.printing (waiting_prints (job_of c.args.job.now) _ _ _ _ _ c.in-Ok.ensures refl) c.in-Ok-print_batch.ensures.prints)
    (none_waits (job_of c.args.job.now) _ _ _ read)

pub returns-in-Nothing-clause-costs : goal.returns-in-Nothing-clause-costs
returns-in-Nothing-clause-costs g c =
    cost_stop _ _ _ _ _ _ _ c.print_batch.ensures.costs (waiting_cost (job_of c.args.job.now) _ _ _ _ _ c.in-Ok.ensures refl) c.loop-behind.invariant.costs

pub loop-behind-preserved : goal.loop-behind-preserved
loop-behind-preserved g c = record {
  printing = printing_more _ _ _ _ _ _ _ c.loop-behind.invariant.printing (waiting_prints (job_of c.args.job.now) _ _ _ _ _ c.in-Ok.ensures refl) c.in-Ok-print_batch.ensures.prints;
  costs = cost_step _ _ _ _ _ _ _ c.print_batch.ensures.costs (waiting_cost (job_of c.args.job.now) _ _ _ _ _ c.in-Ok.ensures refl) c.loop-behind.invariant.costs;
  kept = drained_more _ _ _ _ _ c.in-Ok.ensures ∙ c.loop-behind.invariant.kept;
  rows = c.print_batch.ensures.rows;
  lent = loans_on c.args.out.now c.loop-behind.out c.print_batch.new.out c.loop-behind.invariant.lent c.print_batch.ensures.lent;
}

pub returns-in-Err-print_batch-clause-lent : goal.returns-in-Err-print_batch-clause-lent
returns-in-Err-print_batch-clause-lent g c = loans_on c.args.out.now c.loop-behind.out c.print_batch.new.out c.loop-behind.invariant.lent c.print_batch.ensures.lent

pub returns-in-Nothing-clause-lent : goal.returns-in-Nothing-clause-lent
returns-in-Nothing-clause-lent g c = loans_on c.args.out.now c.loop-behind.out c.print_batch.new.out c.loop-behind.invariant.lent c.print_batch.ensures.lent
