use Rattle.std.proofs.Common.{◌≡◌, ◌≤◌}
use Rattle.sj_base.specs.Count.{raised}
use Rattle.sj_bound.specs.View.{bound_of}
use Rattle.sj_select_list.specs.Line.{line_of}
use Rattle.sj_page.specs.Pages.{print_state}
use Rattle.sj_page.proofs.Printing.{Printing}
use Rattle.sj_run.specs.Output.{rows_print, row_count}
use Rattle.sj_batch.specs.Given.{rows_given, cost_given}
use Rattle.sj_run.proofs.rows.print_statement.Given as goal

-- the rows so far and those that are left are all, and so with what they may take
abbrev pub invariant-loop-turn : goal.invariant-loop-turn
invariant-loop-turn g l =
    let state = print_state g.O.Sink.taken g.O.Sink.size g.O.Sink.faults in
    record {
      printing : Printing (rows_print l.number l.statement (rows_given (bound_of l.fn.rows.bound) (line_of l.line))) (rows_print l.number l.statement l.rows.left) (state l.fn.out l.fn.page) (state l.out l.page);
      costs : raised l.steps l.rows.due ≤ raised l.fn.steps (cost_given (bound_of l.fn.rows.bound) (line_of l.line));
      bound : l.rows.bound ≡ l.fn.rows.bound;
    }

abbrev pub decreases-loop-turn : goal.decreases-loop-turn
decreases-loop-turn g l = row_count l.rows.left
