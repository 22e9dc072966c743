use Rattle.std.proofs.Common.{◌<◌, ◌≤◌, ◌∙◌, ℕ, List, length, Ok, refl, sym, arith}
use Rattle.sj_base.specs.Count.{raised}
use Rattle.sj_table.specs.Series.{elements}
use Rattle.sj_bound.specs.Bound.{Bound}
use Rattle.sj_bound.specs.View.{bound_of}
use Rattle.sj_group.specs.declared.aggregate.Aggregate.{Aggregate}
use Rattle.sj_page.specs.Pages.{print_state, Printed, Stopped}
use Rattle.sj_page.proofs.Printing.{printing_starts, printing_more, printing_stops}
use Rattle.sj_batch.specs.Batch.{line_read}
use Rattle.sj_batch.specs.Given.{cost_given}
use Rattle.sj_batch.proofs.Given.{cost_step, cost_stop}
use Rattle.sj_group_run.specs.GroupJob.{errors_print}
use Rattle.sj_group_run.specs.Gathering.{read_kept, Gathered}
use Rattle.sj_group_run.proofs.ReadLines.{first_prints, first_costs, first_rows}
use Rattle.sj_group_run.proofs.KeptRows.{none_added, more_added}
use Rattle.sj_group_run.proofs.gather.gather_each.Goals as goal

pub loop-line-init : goal.loop-line-init
loop-line-init g c = record { printing = printing_starts _ _; added = none_added _ _ _ refl; costs = omega arith; bound = refl }

pub loop-line-preserved : goal.loop-line-preserved
loop-line-preserved g c =
    let side = print_state g.O.Sink.taken g.O.Sink.size g.O.Sink.faults in
    let a : Aggregate = c.args.gatherer.now.groups.aggregate in
    let s : Bound = bound_of c.args.rows.now.bound in
    let i = c.loop-line.line-index in
    let x = c.line-item.result in
    let within : i < length c.args.lines.now = omega arith in
    let same = c.loop-line.invariant.added.aggregate in
    let bound = c.loop-line.invariant.bound in
    let printed : Printed (errors_print x.number (read_kept a s x)) (side c.loop-line.out c.loop-line.page) (side c.gather_line.new.out c.gather_line.new.page) = rw (sym same, sym bound) c.in-Ok.ensures.prints in
    let gathered : Gathered (elements (read_kept a s x)) c.loop-line.gatherer.groups c.gather_line.new.gatherer.groups c.gather_line.result = rw (sym same, sym bound) c.gather_line.ensures.gathered in
    let spent : c.gather_line.new.steps ≤ raised c.loop-line.steps (cost_given s (line_read x.reading)) = rw (sym bound) c.gather_line.ensures.costs in
    record {
      printing = printing_more _ _ _ _ _ _ _ c.loop-line.invariant.printing (first_prints a s c.args.lines.now i x within c.line-item.is) printed;
      added = more_added _ _ _ _ _ _ _ c.gather_line.result c.in-Ok.field-0 c.loop-line.invariant.added (first_rows a s c.args.lines.now i x within c.line-item.is) gathered c.in-Ok.is;
      costs = cost_step _ _ _ _ _ _ _ spent (first_costs a s c.args.lines.now i x within c.line-item.is) c.loop-line.invariant.costs;
      bound = c.gather_line.ensures.bound ∙ bound;
    }

pub returns-in-Err-clause-prints : goal.returns-in-Err-clause-prints
returns-in-Err-clause-prints g c =
    let side = print_state g.O.Sink.taken g.O.Sink.size g.O.Sink.faults in
    let a : Aggregate = c.args.gatherer.now.groups.aggregate in
    let s : Bound = bound_of c.args.rows.now.bound in
    let i = c.loop-line.line-index in
    let x = c.line-item.result in
    let within : i < length c.args.lines.now = omega arith in
    let same = c.loop-line.invariant.added.aggregate in
    let bound = c.loop-line.invariant.bound in
    let stopped : Stopped (errors_print x.number (read_kept a s x)) (side c.loop-line.out c.loop-line.page) (side c.gather_line.new.out c.gather_line.new.page) c.in-Err.stop = rw (sym same, sym bound) c.in-Err.ensures.prints in
    printing_stops _ _ _ _ _ _ _ _ c.loop-line.invariant.printing (first_prints a s c.args.lines.now i x within c.line-item.is) stopped
