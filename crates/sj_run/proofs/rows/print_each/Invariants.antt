use Rattle.std.proofs.Common.{◌≡◌, ◌≤◌, drop}
use Rattle.sj_base.specs.Count.{raised}
use Rattle.sj_page.specs.Pages.{print_state}
use Rattle.sj_page.proofs.Printing.{Printing}
use Rattle.sj_run.specs.Output.{prints, cost}
use Rattle.sj_run.specs.Batch.{batch_asked, bounds_in}
use Rattle.sj_run.proofs.rows.print_each.Given as goal

-- what was asked of the lines so far and of those that are left is all, and so with what it may take
abbrev pub invariant-loop-line : goal.invariant-loop-line
invariant-loop-line g l =
    let state = print_state g.O.Sink.taken g.O.Sink.size g.O.Sink.faults in
    let all = bounds_in l.fn.rows in
    record {
      bounds : bounds_in l.rows ≡ all;
      printing : Printing (prints (batch_asked all l.lines)) (prints (batch_asked all (drop l.line-index l.lines))) (state l.fn.out l.fn.page) (state l.out l.page);
      costs : raised l.steps (cost (batch_asked all (drop l.line-index l.lines))) ≤ raised l.fn.steps (cost (batch_asked all l.lines));
    }
