use Rattle.std.proofs.Common.{◌≡◌, ◌≤◌, ◌++◌, List, drop}
use Rattle.sj_base.specs.Count.{raised}
use Rattle.sj_bound.specs.View.{bound_of}
use Rattle.sj_page.specs.Pages.{print_state}
use Rattle.sj_page.proofs.Printing.{Printing}
use Rattle.sj_group_run.specs.Gathering.{batch_print, batch_cost, batch_rows}
use Rattle.sj_group_run.proofs.KeptRows.{AddedSoFar}
use Rattle.sj_group_run.proofs.gather.gather_each.Given as goal

-- what the lines so far gave stands before what those that are left will give
abbrev pub invariant-loop-line : goal.invariant-loop-line
invariant-loop-line g l =
    let state = print_state g.O.Sink.taken g.O.Sink.size g.O.Sink.faults in
    let a = l.fn.gatherer.groups.aggregate in
    let s = bound_of l.fn.rows.bound in
    let left = drop l.line-index l.lines in
    record {
      printing : Printing (batch_print a s l.lines) (batch_print a s left) (state l.fn.out l.fn.page) (state l.out l.page);
      added : AddedSoFar (batch_rows a s l.lines) (batch_rows a s left) l.fn.gatherer.groups l.gatherer.groups;
      costs : raised l.steps (batch_cost s left) ≤ raised l.fn.steps (batch_cost s l.lines);
      bound : l.rows.bound ≡ l.fn.rows.bound;
    }
