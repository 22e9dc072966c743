use Rattle.std.proofs.Common.{◌++◌, List, ℕ, Ok, Err, refl, ap, arith, ◌∙◌}
use Rattle.sj_bound.specs.View.{bound_of}
use Rattle.sj_select_list.specs.Line.{line_of}
use Rattle.sj_page.specs.Pages.{print_state}
use Rattle.sj_page.proofs.Printing.{printing_more, printing_done, printing_ends, printing_stops}
use Rattle.sj_run.specs.Output.{rows_print}
use Rattle.sj_stream.proofs.Pages.{memory_stops}
use Rattle.sj_batch.proofs.Given.{rows_start, costs_start, spent_on}
use Rattle.sj_run.proofs.Turns.{turn_row, row_put, raised_text, printing_same, turn_raised, begins}
use Rattle.sj_run.proofs.rows.print_statement.Goals as goal

pub loop-turn-init : goal.loop-turn-init
loop-turn-init g c = record {
  printing = begins _ _ _ (ap (rows_print c.args.number c.args.statement) (rows_start (bound_of c.args.rows.now.bound) (line_of c.args.line) c.rewind.new.self.left c.rewind.ensures.left));
  costs = omega (arith, costs_start (bound_of c.args.rows.now.bound) (line_of c.args.line) c.rewind.new.self.due c.rewind.ensures.due);
  bound = c.rewind.ensures.bound;
}

pub loop-turn-preserved : goal.loop-turn-preserved
loop-turn-preserved g c =
    let state = print_state g.O.Sink.taken g.O.Sink.size g.O.Sink.faults in
    let before = state c.loop-turn.out c.loop-turn.page in
    let put = state c.loop-turn.out (record { text = c.print.new.out; rows = c.loop-turn.page.rows; errors = c.loop-turn.page.errors }) in
    let after = state c.row_came.new.out c.row_came.new.self in
    record {
      printing = printing_more _ _ _ _ _ before after c.loop-turn.invariant.printing (turn_row _ _ _ _ _ c.in-Ok.ensures.gives c.in-Row.is)
          (row_put c.args.number c.args.statement c.loop-turn.rows c.print.new.self c.in-Ok.turn before put after (Ok c.in-Ok-row_came.field-0) c.in-Ok.ensures.gives c.in-Row.is refl c.in-Ok.ensures.text refl refl c.in-Ok-row_came.ensures.prints);
      costs = omega (arith, spent_on _ _ _ _ _ _ c.in-Ok.ensures.spends c.loop-turn.invariant.costs);
      bound = c.print.ensures.bound ∙ c.loop-turn.invariant.bound;
    }

-- behind the row that is known to be the last one
pub returns-then-is_over-clause-prints : goal.returns-then-is_over-clause-prints
returns-then-is_over-clause-prints g c =
    let state = print_state g.O.Sink.taken g.O.Sink.size g.O.Sink.faults in
    let before = state c.loop-turn.out c.loop-turn.page in
    let put = state c.loop-turn.out (record { text = c.print.new.out; rows = c.loop-turn.page.rows; errors = c.loop-turn.page.errors }) in
    let after = state c.row_came.new.out c.row_came.new.self in
    printing_done _ _ _ _
    (printing_more _ _ _ _ _ before after c.loop-turn.invariant.printing (turn_row _ _ _ _ _ c.in-Ok.ensures.gives c.in-Row.is)
    (row_put c.args.number c.args.statement c.loop-turn.rows c.print.new.self c.in-Ok.turn before put after (Ok c.in-Ok-row_came.field-0) c.in-Ok.ensures.gives c.in-Row.is refl c.in-Ok.ensures.text refl refl c.in-Ok-row_came.ensures.prints))
    (ap (rows_print c.args.number c.args.statement) (c.is_over.ensures.over c.if-is_over.true))

pub returns-in-Err-clause-prints : goal.returns-in-Err-clause-prints
returns-in-Err-clause-prints g c = memory_stops _ _ _ _ _ c.loop-turn.invariant.printing refl

pub returns-in-Err-row_came-clause-prints : goal.returns-in-Err-row_came-clause-prints
returns-in-Err-row_came-clause-prints g c =
    let state = print_state g.O.Sink.taken g.O.Sink.size g.O.Sink.faults in
    let before = state c.loop-turn.out c.loop-turn.page in
    let put = state c.loop-turn.out (record { text = c.print.new.out; rows = c.loop-turn.page.rows; errors = c.loop-turn.page.errors }) in
    let after = state c.row_came.new.out c.row_came.new.self in
    printing_stops _ _ _ _ _ before after _ c.loop-turn.invariant.printing (turn_row _ _ _ _ _ c.in-Ok.ensures.gives c.in-Row.is)
    (row_put c.args.number c.args.statement c.loop-turn.rows c.print.new.self c.in-Ok.turn before put after (Err c.in-Err-row_came.stop) c.in-Ok.ensures.gives c.in-Row.is refl c.in-Ok.ensures.text refl refl c.in-Err-row_came.ensures.prints)

pub returns-in-Raised-clause-prints : goal.returns-in-Raised-clause-prints
returns-in-Raised-clause-prints g c =
    let state = print_state g.O.Sink.taken g.O.Sink.size g.O.Sink.faults in
    let before = state c.loop-turn.out c.loop-turn.page in
    let put = state c.loop-turn.out (record { text = c.print.new.out; rows = c.loop-turn.page.rows; errors = c.loop-turn.page.errors }) in
    let none = raised_text c.args.number c.args.statement c.loop-turn.rows c.print.new.self c.in-Ok.turn c.in-Raised.state c.in-Ok.ensures.gives c.in-Raised.is in
    printing_ends _ _ _ _ put _ _
    (printing_same _ _ _ before put c.loop-turn.invariant.printing refl (c.in-Ok.ensures.text ∙ ap (λ (l : List ℕ). c.loop-turn.page.text ++ l) none) refl refl)
    (turn_raised _ _ _ _ _ c.in-Raised.state c.in-Ok.ensures.gives c.in-Raised.is) c.error_row.ensures.prints
