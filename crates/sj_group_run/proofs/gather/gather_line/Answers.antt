use Rattle.std.proofs.Common.{◌≡◌, ◌≤◌, List, [], ◌∷◌, Bool, true, false, not, Option, Some, None, Result, Ok, Err, refl, sym, ◌∙◌, ap, subst, arith}
use Rattle.sj_base.specs.declared.state.State.{State}
use Rattle.sj_base.specs.declared.state.State.TheVariants.{S22004}
use Rattle.sj_bound.specs.Bound.{Bound}
use Rattle.sj_bound.specs.View.{bound_of}
use Rattle.sj_select_list.specs.Line.{line_of}
use Rattle.sj_select.specs.Seen.{turn_of, next_values}
use Rattle.sj_select.specs.declared.rows.Turn.TheVariants as turn
use Rattle.sj_table.specs.Series.{Series, rest, more, elements, end_of}
use Rattle.sj_group.specs.declared.aggregate.Aggregate.{Aggregate}
use Rattle.sj_group.specs.Grouping.{Row, IsRow, columns_of, takes}
use Rattle.sj_page.specs.Pages.{Print, PrintState, print_state, Printed, Stopped, Prints}
use Rattle.sj_page.proofs.Printing.{printed_none, stopped_before, prints_same}
use Rattle.sj_batch.specs.Batch.{line_read}
use Rattle.sj_batch.specs.Given.{rows_given, cost_given}
use Rattle.sj_batch.proofs.Given.{rows_start, costs_start, spent_on, spent_last}
use Rattle.sj_group_run.specs.Kept.{kept}
use Rattle.sj_group_run.specs.GroupJob.{end_print, errors_print}
use Rattle.sj_group_run.proofs.Fits.{EachRow, FitsGroup, row_is, given_fit}
use Rattle.sj_group_run.proofs.KeptRows.{SoFar, taken, cut, ended, raised, fits_first, fits_rest, none_so_far, one_more, all_gathered, gathered_no_more}
use Rattle.sj_group_run.proofs.gather.gather_line.Goals as goal

pub loop-turn-init : goal.loop-turn-init
loop-turn-init g c =
    let a : Aggregate = c.args.gatherer.now.groups.aggregate in
    let s : Bound = bound_of c.args.rows.now.bound in
    let line = line_read c.args.line.now.reading in
    let left = c.rewind.new.self.left in
    let is : left ≡ rows_given s line = rows_start s (line_of c.line.result) left c.rewind.ensures.left ∙ ap (rows_given s) c.line.ensures in
    let due : c.rewind.new.self.due ≡ cost_given s line = costs_start s (line_of c.line.result) c.rewind.new.self.due c.rewind.ensures.due ∙ ap (cost_given s) c.line.ensures in
    record {
      so_far = none_so_far a (rows_given s line) left c.args.gatherer.now.groups is;
      aggregate = refl;
      fits = subst (EachRow (FitsGroup a)) (sym is) (given_fit a s line c.requires.sound c.requires.fits);
      costs = omega (arith, due);
      bound = c.rewind.ensures.bound;
      out = refl;
      page = refl;
    }

pub loop-turn-preserved : goal.loop-turn-preserved
loop-turn-preserved g c =
    let a : Aggregate = c.args.gatherer.now.groups.aggregate in
    let left = c.loop-turn.rows.left in
    let row : Row = c.as_slice-row.result.now in
    let came = sym c.in-Row.is ∙ c.in-Ok.ensures.gives.answers in
    let is : row ≡ next_values left = c.as_slice-row.ensures.value ∙ c.in-Ok.ensures.values in
    let takes_it : takes a row ≡ true = ap (λ (x : Aggregate). takes x row) (sym c.loop-turn.invariant.aggregate) ∙ sym c.takes.ensures ∙ c.if-not-takes.false in
    let kept_is = taken a left row came is takes_it ∙ ap (λ (xs : Series Row). more row (kept a xs)) (sym c.in-Ok.ensures.gives.leaves) in
    record {
      so_far = one_more a _ left c.next.new.self.left row c.args.gatherer.now.groups c.loop-turn.gatherer.groups c.add.new.self c.loop-turn.invariant.so_far kept_is c.in-Ok-add.ensures.stands;
      aggregate = c.add.ensures.aggregate ∙ c.loop-turn.invariant.aggregate;
      fits = subst (EachRow (FitsGroup a)) (sym c.in-Ok.ensures.gives.leaves) (fits_rest (FitsGroup a) left c.loop-turn.invariant.fits);
      costs = spent_on _ _ _ _ _ _ c.next.ensures.spends c.loop-turn.invariant.costs;
      bound = c.next.ensures.bound ∙ c.loop-turn.invariant.bound;
      out = c.loop-turn.invariant.out;
      page = c.loop-turn.invariant.page;
    }

pub returns-in-End-clause-prints : goal.returns-in-End-clause-prints
returns-in-End-clause-prints g c =
    let a : Aggregate = c.args.gatherer.now.groups.aggregate in
    let left = c.loop-turn.rows.left in
    let none = ended a left (sym c.in-End.is ∙ c.in-Ok.ensures.gives.answers) in
    let nothing_printed = ap (end_print c.args.line.now.number) (c.loop-turn.invariant.so_far.end ∙ ap end_of none) in
    let state = print_state g.O.Sink.taken g.O.Sink.size g.O.Sink.faults in
    subst (λ (p : Print). Printed p (state c.args.out.now c.args.page.now) (state c.loop-turn.out c.loop-turn.page)) (sym nothing_printed)
    (rw (c.loop-turn.invariant.out, c.loop-turn.invariant.page) (printed_none (state c.args.out.now c.args.page.now)))
