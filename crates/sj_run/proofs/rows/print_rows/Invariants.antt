use Rattle.std.proofs.Common.{◌≡◌, ◌≤◌, ◌+◌, drop}
use Rattle.sj_base.specs.Count.{raised}
use Rattle.sj_page.specs.Pages.{print_state}
use Rattle.sj_page.proofs.Printing.{Printing}
use Rattle.sj_run.specs.Output.{asked_from, prints, cost}
use Rattle.sj_run.specs.Batch.{bounds_in}
use Rattle.sj_batch.specs.Batch.{line_read}
use Rattle.sj_run.proofs.rows.print_rows.Given as goal

-- what was asked so far and what is left are all, and so with what it may take
abbrev pub invariant-loop-statement : goal.invariant-loop-statement
invariant-loop-statement g l =
    let state = print_state g.O.Sink.taken g.O.Sink.size g.O.Sink.faults in
    let all = bounds_in l.fn.rows in
    let seen = line_read l.line.reading in
    record {
      number : l.number ≡ l.statement-index + 1;
      bounds : bounds_in l.rows ≡ all;
      printing : Printing (prints (asked_from 1 all l.line.number seen)) (prints (asked_from l.number (drop l.statement-index all) l.line.number seen)) (state l.fn.out l.fn.page) (state l.out l.page);
      costs : raised l.steps (cost (asked_from l.number (drop l.statement-index all) l.line.number seen)) ≤ raised l.fn.steps (cost (asked_from 1 all l.line.number seen));
    }
