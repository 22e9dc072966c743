use Rattle.std.proofs.Common.{◌+◌, ◌<◌, ◌≤◌, ◌∙◌, ap, arith, length, get_or, refl}
use Rattle.sj_base.specs.Count.{raised}
use Rattle.sj_bound.specs.View.{bound_of}
use Rattle.sj_select_list.specs.Line.{line_of}
use Rattle.sj_page.specs.Pages.{print_state, Printed, Stopped}
use Rattle.sj_page.proofs.Printing.{printing_starts, printing_more, printing_stops}
use Rattle.sj_run.specs.Batch.{bounds_in}
use Rattle.sj_run.specs.Output.{rows_print}
use Rattle.sj_batch.specs.Batch.{line_read}
use Rattle.sj_batch.specs.Given.{rows_given, cost_given}
use Rattle.sj_run.proofs.Batches.{rows_first, rows_asked}
use Rattle.sj_batch.proofs.Given.{cost_step, cost_stop}
use Rattle.sj_run.proofs.Turns.{statement_first, statement_cost_first}
use Rattle.sj_run.proofs.rows.print_rows.Goals as goal

pub loop-statement-init : goal.loop-statement-init
loop-statement-init g c = record { number = refl; bounds = refl; printing = printing_starts _ _; costs = omega arith }

pub loop-statement-preserved : goal.loop-statement-preserved
loop-statement-preserved g c =
    let side = print_state g.O.Sink.taken g.O.Sink.size g.O.Sink.faults in
    let i = c.loop-statement.statement-index in
    let x = get_or c.loop-statement.rows i c.statement-item.result in
    let seen = line_of c.line-seen.result in
    let within : i < length c.loop-statement.rows = omega arith in
    let first = rows_first c.loop-statement.rows (bounds_in c.args.rows.now) i c.statement-item.result x within c.loop-statement.invariant.bounds refl in
    let printed : Printed (rows_print c.args.line.now.number c.loop-statement.number (rows_given (bound_of x.bound) seen)) (side c.loop-statement.out c.loop-statement.page) (side c.print_statement.new.out c.print_statement.new.page) = c.in-Ok.ensures.prints in
    let spent : c.print_statement.new.steps ≤ raised c.loop-statement.steps (cost_given (bound_of x.bound) seen) = c.print_statement.ensures.costs in
    record {
      number = ap (λ n. n + 1) c.loop-statement.invariant.number;
      bounds = rows_asked c.loop-statement.rows i c.statement-item.result c.print_statement.new.rows c.print_statement.ensures.bound ∙ c.loop-statement.invariant.bounds;
      printing = printing_more _ _ _ _ _ _ _ c.loop-statement.invariant.printing (statement_first (bounds_in c.args.rows.now) i c.loop-statement.number c.args.line.now.number (line_read c.args.line.now.reading) seen (bound_of x.bound) first c.line-seen.ensures) printed;
      costs = cost_step _ _ _ _ _ _ _ spent (statement_cost_first (bounds_in c.args.rows.now) i c.loop-statement.number c.args.line.now.number (line_read c.args.line.now.reading) seen (bound_of x.bound) first c.line-seen.ensures) c.loop-statement.invariant.costs;
    }

pub returns-in-Err-clause-prints : goal.returns-in-Err-clause-prints
returns-in-Err-clause-prints g c =
    let side = print_state g.O.Sink.taken g.O.Sink.size g.O.Sink.faults in
    let i = c.loop-statement.statement-index in
    let x = get_or c.loop-statement.rows i c.statement-item.result in
    let seen = line_of c.line-seen.result in
    let within : i < length c.loop-statement.rows = omega arith in
    let first = rows_first c.loop-statement.rows (bounds_in c.args.rows.now) i c.statement-item.result x within c.loop-statement.invariant.bounds refl in
    let stopped : Stopped (rows_print c.args.line.now.number c.loop-statement.number (rows_given (bound_of x.bound) seen)) (side c.loop-statement.out c.loop-statement.page) (side c.print_statement.new.out c.print_statement.new.page) c.in-Err.stop = c.in-Err.ensures.prints in
    printing_stops _ _ _ _ _ _ _ _ c.loop-statement.invariant.printing (statement_first (bounds_in c.args.rows.now) i c.loop-statement.number c.args.line.now.number (line_read c.args.line.now.reading) seen (bound_of x.bound) first c.line-seen.ensures) stopped

pub returns-in-Err-clause-costs : goal.returns-in-Err-clause-costs
returns-in-Err-clause-costs g c =
    let i = c.loop-statement.statement-index in
    let x = get_or c.loop-statement.rows i c.statement-item.result in
    let seen = line_of c.line-seen.result in
    let within : i < length c.loop-statement.rows = omega arith in
    let first = rows_first c.loop-statement.rows (bounds_in c.args.rows.now) i c.statement-item.result x within c.loop-statement.invariant.bounds refl in
    let spent : c.print_statement.new.steps ≤ raised c.loop-statement.steps (cost_given (bound_of x.bound) seen) = c.print_statement.ensures.costs in
    cost_stop _ _ _ _ _ _ _ spent (statement_cost_first (bounds_in c.args.rows.now) i c.loop-statement.number c.args.line.now.number (line_read c.args.line.now.reading) seen (bound_of x.bound) first c.line-seen.ensures) c.loop-statement.invariant.costs

pub returns-in-Err-clause-bounds : goal.returns-in-Err-clause-bounds
returns-in-Err-clause-bounds g c =
    rows_asked c.loop-statement.rows c.loop-statement.statement-index c.statement-item.result c.print_statement.new.rows c.print_statement.ensures.bound ∙ c.loop-statement.invariant.bounds
