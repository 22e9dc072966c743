use Rattle.std.proofs.Common.{◌≡◌, ◌≤◌, ◌+◌, length}
use Rattle.sj_base.specs.Count.{raised}
use Rattle.sj_rows.specs.HeldLines.{drained}
use Rattle.sj_page.proofs.Printing.{Printing}
use Rattle.sj_file.specs.Job.{job_of}
use Rattle.sj_run.specs.Batch.{bounds_in}
use Rattle.sj_stream.specs.LineJob.{lines_print, lines_cost}
use Rattle.sj_stream.specs.Out.{state_at, SameLoans}
use Rattle.sj_run.specs.Output.{line_job}
use Rattle.sj_run.proofs.round.read_and_print.Given as goal

-- what was asked so far and what will be of the lines that wait is all
abbrev pub invariant-loop-behind : goal.invariant-loop-behind
invariant-loop-behind g l =
    let state = state_at g.O.Sink in
    let here = line_job (job_of l.job) in
    record {
      printing : Printing (lines_print here (l.fn.lines.given + 1) l.fn.lines.waiting) (lines_print here (l.lines.given + 1) l.lines.waiting) (state l.fn.out) (state l.out);
      costs : raised l.out.steps.now (lines_cost here (l.lines.given + 1) l.lines.waiting) ≤ raised l.fn.out.steps.now (lines_cost here (l.fn.lines.given + 1) l.fn.lines.waiting);
      kept : drained l.lines ≡ drained l.fn.lines;
      rows : bounds_in l.kept.rows.items ≡ (job_of l.job).statements;
      lent : SameLoans l.fn.out l.out;
    }

abbrev pub decreases-loop-behind : goal.decreases-loop-behind
decreases-loop-behind g l = length l.lines.waiting
