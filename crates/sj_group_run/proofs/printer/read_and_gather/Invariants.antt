use Rattle.std.proofs.Common.{◌≡◌, ◌≤◌, ◌+◌, length}
use Rattle.sj_base.specs.Count.{raised}
use Rattle.sj_bound.specs.View.{bound_of}
use Rattle.sj_rows.specs.HeldLines.{drained}
use Rattle.sj_page.proofs.Printing.{Printing}
use Rattle.sj_stream.specs.LineJob.{lines_print, lines_cost}
use Rattle.sj_stream.specs.Out.{state_at, SameLoans}
use Rattle.sj_group_run.specs.Kept.{rows_kept}
use Rattle.sj_group_run.specs.GroupJob.{group_job}
use Rattle.sj_group_run.proofs.KeptRows.{AddedSoFar}
use Rattle.sj_group_run.proofs.printer.read_and_gather.Given as goal

-- what the lines so far gave stands before what those that wait will give
abbrev pub invariant-loop-behind : goal.invariant-loop-behind
invariant-loop-behind g l =
    let state = state_at g.O.Sink in
    let a = l.to_group.aggregate in
    let s = bound_of l.to_group.statement in
    let here = group_job a s in
    record {
      printing : Printing (lines_print here (l.fn.lines.given + 1) l.fn.lines.waiting) (lines_print here (l.lines.given + 1) l.lines.waiting) (state l.fn.out) (state l.out);
      costs : raised l.out.steps.now (lines_cost here (l.lines.given + 1) l.lines.waiting) ≤ raised l.fn.out.steps.now (lines_cost here (l.fn.lines.given + 1) l.fn.lines.waiting);
      kept : drained l.lines ≡ drained l.fn.lines;
      added : AddedSoFar (rows_kept a s l.fn.lines.waiting) (rows_kept a s l.lines.waiting) l.fn.gatherer.groups l.gatherer.groups;
      lent : SameLoans l.fn.out l.out;
    }

abbrev pub decreases-loop-behind : goal.decreases-loop-behind
decreases-loop-behind g l = length l.lines.waiting
