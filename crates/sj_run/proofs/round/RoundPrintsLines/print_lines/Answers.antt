use Rattle.std.proofs.Common.{◌≤◌, ◌+◌, ℕ, ap, subst, Result, Ok, Err, OnOk}
use Rattle.sj_base.specs.Count.{raised}
use Rattle.sj_page.proofs.Printing.{prints_same}
use Rattle.sj_stream.specs.LineJob.{LineJob, lines_print, lines_cost}
use Rattle.sj_run.proofs.round.RoundPrintsLines.print_lines.Goals as goal

always : {T E : Type 0} (r : Result T E) (A : Type 0) → A → OnOk r A
always (Ok x) A a = a
always (Err e) A a = tt

pub read_and_print-requires-clause-ready : goal.read_and_print-requires-clause-ready
read_and_print-requires-clause-ready g c = c.requires.2.ready

pub read_and_print-requires-clause-rows : goal.read_and_print-requires-clause-rows
read_and_print-requires-clause-rows g c = c.requires.2.rows_are

pub returns-clause-prints : goal.returns-clause-prints
returns-clause-prints g c = λ job before does. prints_same _ _ _ _ _ (ap (λ (J : LineJob). lines_print J (c.args.lines.now.given + 1) c.args.lines.now.waiting) does.job_is) c.read_and_print.ensures.prints

pub returns-clause-costs : goal.returns-clause-costs
returns-clause-costs g c = λ job before does.
    subst (λ (n : ℕ). c.read_and_print.new.out.steps.now ≤ raised c.args.out.now.steps.now n) (ap (λ (J : LineJob). lines_cost J (c.args.lines.now.given + 1) c.args.lines.now.waiting) does.job_is) c.read_and_print.ensures.costs

pub returns-clause-saw : goal.returns-clause-saw
returns-clause-saw g c = λ job before does. always c.read_and_print.result _ (record { ready = does.ready; rows_are = c.read_and_print.ensures.rows; job_is = does.job_is })
