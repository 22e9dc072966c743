use Rattle.std.proofs.Common.{◌≡◌, ◌≤◌, ◌∙◌, Ok, refl, subst, sym, arith}
use Rattle.sj_base.specs.Count.{raised}
use Rattle.sj_bound.specs.Bound.{Bound}
use Rattle.sj_bound.specs.View.{bound_of}
use Rattle.sj_group.specs.declared.aggregate.Aggregate.{Aggregate}
use Rattle.sj_page.specs.Pages.{Printed, Stopped}
use Rattle.sj_page.proofs.Printing.{printing_starts, printing_more, printing_done, printing_stops, printing_memory}
use Rattle.sj_file.specs.declared.job.Keys.TheVariants.{Any}
use Rattle.sj_stream.specs.Out.{state_at}
use Rattle.sj_stream.proofs.Loans.{loans_stay, loans_on}
use Rattle.sj_batch.specs.declared.batch.Behind.{Behind}
use Rattle.sj_batch.specs.Batch.{ReadOn}
use Rattle.sj_batch.proofs.Given.{cost_step, cost_stop}
use Rattle.sj_batch.proofs.WaitingLines.{drained_more}
use Rattle.sj_group_run.specs.Gathering.{batch_print, batch_cost, batch_rows, Gathered}
use Rattle.sj_group_run.proofs.ReadLines.{waiting_prints, waiting_cost, waiting_rows, none_waits, no_rows_wait}
use Rattle.sj_group_run.proofs.KeptRows.{none_added, more_added, all_added}
use Rattle.sj_group_run.proofs.printer.read_and_gather.Goals as goal

pub loop-behind-init : goal.loop-behind-init
loop-behind-init g c = record { printing = printing_starts _ _; costs = omega arith; kept = refl; added = none_added _ _ _ refl; lent = loans_stay c.args.out.now }

pub returns-in-Err-clause-prints : goal.returns-in-Err-clause-prints
returns-in-Err-clause-prints g c = printing_memory _ _ _ _ c.loop-behind.invariant.printing

pub returns-in-Err-gather_batch-clause-prints : goal.returns-in-Err-gather_batch-clause-prints
returns-in-Err-gather_batch-clause-prints g c =
    let a : Aggregate = c.args.to_group.now.aggregate in
    let s : Bound = bound_of c.args.to_group.now.statement in
    let same = c.loop-behind.invariant.added.aggregate ∙ c.requires.aggregate in
    let stopped : Stopped (batch_print a s c.read_on.new.self.lines.items) (state_at g.O.Sink c.loop-behind.out) (state_at g.O.Sink c.gather_batch.new.out) c.in-Err-gather_batch.stop = rw (sym c.as_slice.ensures.value, sym same) c.in-Err-gather_batch.ensures.prints in
    printing_stops _ _ _ _ _ _ _ _ c.loop-behind.invariant.printing (waiting_prints a s _ _ _ _ c.in-Ok.ensures) stopped

pub returns-in-Err-gather_batch-clause-costs : goal.returns-in-Err-gather_batch-clause-costs
returns-in-Err-gather_batch-clause-costs g c =
    let a : Aggregate = c.args.to_group.now.aggregate in
    let s : Bound = bound_of c.args.to_group.now.statement in
    let spent : c.gather_batch.new.out.steps.now ≤ raised c.loop-behind.out.steps.now (batch_cost s c.read_on.new.self.lines.items) = rw (sym c.as_slice.ensures.value) c.gather_batch.ensures.costs in
    cost_stop _ _ _ _ _ _ _ spent (waiting_cost a s _ _ _ _ c.in-Ok.ensures) c.loop-behind.invariant.costs

pub returns-in-Nothing-clause-prints : goal.returns-in-Nothing-clause-prints
returns-in-Nothing-clause-prints g c =
    let a : Aggregate = c.args.to_group.now.aggregate in
    let s : Bound = bound_of c.args.to_group.now.statement in
    let same = c.loop-behind.invariant.added.aggregate ∙ c.requires.aggregate in
    let read = subst (λ (b : Behind). ReadOn Any c.loop-behind.lines c.read_on.new.waiting c.read_on.new.self.lines.items b) c.in-Nothing.is c.in-Ok.ensures in
    let printed : Printed (batch_print a s c.read_on.new.self.lines.items) (state_at g.O.Sink c.loop-behind.out) (state_at g.O.Sink c.gather_batch.new.out) = rw (sym c.as_slice.ensures.value, sym same) c.in-Ok-gather_batch.ensures.prints in
    printing_done _ _ _ _ (printing_more _ _ _ _ _ _ _ c.loop-behind.invariant.printing (waiting_prints a s _ _ _ _ c.in-Ok.ensures) printed) (none_waits a s _ _ _ read)

pub returns-in-Nothing-clause-costs : goal.returns-in-Nothing-clause-costs
returns-in-Nothing-clause-costs g c =
    let a : Aggregate = c.args.to_group.now.aggregate in
    let s : Bound = bound_of c.args.to_group.now.statement in
    let spent : c.gather_batch.new.out.steps.now ≤ raised c.loop-behind.out.steps.now (batch_cost s c.read_on.new.self.lines.items) = rw (sym c.as_slice.ensures.value) c.gather_batch.ensures.costs in
    cost_stop _ _ _ _ _ _ _ spent (waiting_cost a s _ _ _ _ c.in-Ok.ensures) c.loop-behind.invariant.costs

pub returns-in-Nothing-clause-gathered : goal.returns-in-Nothing-clause-gathered
returns-in-Nothing-clause-gathered g c =
    let a : Aggregate = c.args.to_group.now.aggregate in
    let s : Bound = bound_of c.args.to_group.now.statement in
    let same = c.loop-behind.invariant.added.aggregate ∙ c.requires.aggregate in
    let read = subst (λ (b : Behind). ReadOn Any c.loop-behind.lines c.read_on.new.waiting c.read_on.new.self.lines.items b) c.in-Nothing.is c.in-Ok.ensures in
    let gathered : Gathered (batch_rows a s c.read_on.new.self.lines.items) c.loop-behind.gatherer.groups c.gather_batch.new.gatherer.groups c.gather_batch.result = rw (sym c.as_slice.ensures.value, sym same) c.gather_batch.ensures.gathered in
    all_added _ _ _ _ _ (more_added _ _ _ _ _ _ _ c.gather_batch.result c.in-Ok-gather_batch.field-0 c.loop-behind.invariant.added (waiting_rows a s _ _ _ _ c.in-Ok.ensures) gathered c.in-Ok-gather_batch.is) (no_rows_wait a s _ _ _ read)

pub loop-behind-preserved : goal.loop-behind-preserved
loop-behind-preserved g c =
    let a : Aggregate = c.args.to_group.now.aggregate in
    let s : Bound = bound_of c.args.to_group.now.statement in
    let same = c.loop-behind.invariant.added.aggregate ∙ c.requires.aggregate in
    let printed : Printed (batch_print a s c.read_on.new.self.lines.items) (state_at g.O.Sink c.loop-behind.out) (state_at g.O.Sink c.gather_batch.new.out) = rw (sym c.as_slice.ensures.value, sym same) c.in-Ok-gather_batch.ensures.prints in
    let spent : c.gather_batch.new.out.steps.now ≤ raised c.loop-behind.out.steps.now (batch_cost s c.read_on.new.self.lines.items) = rw (sym c.as_slice.ensures.value) c.gather_batch.ensures.costs in
    let gathered : Gathered (batch_rows a s c.read_on.new.self.lines.items) c.loop-behind.gatherer.groups c.gather_batch.new.gatherer.groups c.gather_batch.result = rw (sym c.as_slice.ensures.value, sym same) c.gather_batch.ensures.gathered in
    record {
      printing = printing_more _ _ _ _ _ _ _ c.loop-behind.invariant.printing (waiting_prints a s _ _ _ _ c.in-Ok.ensures) printed;
      costs = cost_step _ _ _ _ _ _ _ spent (waiting_cost a s _ _ _ _ c.in-Ok.ensures) c.loop-behind.invariant.costs;
      kept = drained_more _ _ _ _ _ c.in-Ok.ensures ∙ c.loop-behind.invariant.kept;
      added = more_added _ _ _ _ _ _ _ c.gather_batch.result c.in-Ok-gather_batch.field-0 c.loop-behind.invariant.added (waiting_rows a s _ _ _ _ c.in-Ok.ensures) gathered c.in-Ok-gather_batch.is;
      lent = loans_on c.args.out.now c.loop-behind.out c.gather_batch.new.out c.loop-behind.invariant.lent c.gather_batch.ensures.lent;
    }
