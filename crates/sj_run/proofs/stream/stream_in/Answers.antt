use Rattle.std.proofs.Common.{[], ◌++◌, map, refl, ap, subst, sym, ◌∙◌, arith, length-append}
use Rattle.sj_bound.specs.View.{bound_of}
use Rattle.sj_page.specs.declared.page.Page.{Page}
use Rattle.sj_file.specs.Job.{job_of}
use Rattle.sj_stream.specs.Input.{input_at}
use Rattle.sj_stream.specs.LineJob.{LineJob}
use Rattle.sj_stream.specs.Out.{state_at, out_at}
use Rattle.sj_stream.specs.Stream.{GoesOn}
use Rattle.sj_stream.proofs.Loans.{loans_stay, loans_on}
use Rattle.sj_stream.proofs.Streaming.{starts, limit_reached, memory_ends}
use Rattle.sj_run.specs.Batch.{bounds_in}
use Rattle.sj_run.specs.Output.{line_job}
use Rattle.sj_run.specs.Round.{Does}
use Rattle.sj_run.proofs.stream.stream_in.Goals as goal

pub loop-taken-init : goal.loop-taken-init
loop-taken-init g c =
    let from = input_at g.I.Source c.args.input.now c.args.out.now.steps.now in
    let to = out_at g.O.Sink c.args.out.now.sink.now in
    let job : LineJob = line_job (job_of c.args.job.now) in
    record {
      limit = omega arith;
      a_piece = c.requires.a_piece;
      lent = loans_stay c.args.out.now;
      goes_on = ([], refl, c.new-lines.ensures.empty, subst (λ (page : Page). GoesOn job from from to (record { out = to; page = page }) []) (sym c.requires.empty) (starts job from to));
    }

pub loop-taken-preserved : goal.loop-taken-preserved
loop-taken-preserved g c =
    let job : LineJob = line_job (job_of c.args.job.now) in
    let here = c.loop-taken.invariant.goes_on in
    let does : Does c.args.job.now (bounds_in c.in-Ok.kept.rows.items) job = record { ready = c.requires.ready; rows_are = c.in-Ok.ensures ∙ ap (map bound_of) c.deref.ensures.value; job_is = refl } in
    let t =
    c.in-More.ensures.turned job (input_at g.I.Source c.args.input.now c.args.out.now.steps.now) (out_at g.O.Sink c.args.out.now.sink.now) here.0 (omega (arith, here.1, c.loop-taken.invariant.limit)) (here.3, (does, here.2)) in
    record {
      limit = omega (arith, c.in-More.ensures.bound.1, c.loop-taken.invariant.limit);
      a_piece = c.loop-taken.invariant.a_piece;
      lent = loans_on c.args.out.now c.loop-taken.out c.take_turns-progress.new.out c.loop-taken.invariant.lent c.take_turns-progress.ensures.lent;
      goes_on = (here.0 ++ t.0, omega (arith, length-append here.0 t.0, here.1, t.1), c.into_lines-lines.ensures ∙ t.2.1.1, t.2.0);
    }

pub returns-in-Over-clause-streamed : goal.returns-in-Over-clause-streamed
returns-in-Over-clause-streamed g c =
    let job : LineJob = line_job (job_of c.args.job.now) in
    let here = c.loop-taken.invariant.goes_on in
    let does : Does c.args.job.now (bounds_in c.in-Ok.kept.rows.items) job = record { ready = c.requires.ready; rows_are = c.in-Ok.ensures ∙ ap (map bound_of) c.deref.ensures.value; job_is = refl } in
    (c.in-Over.ensures.turned job (input_at g.I.Source c.args.input.now c.args.out.now.steps.now) (out_at g.O.Sink c.args.out.now.sink.now) here.0 (omega (arith, here.1, c.loop-taken.invariant.limit)) (here.3, (does, here.2))).0

pub returns-in-Err-clause-streamed : goal.returns-in-Err-clause-streamed
returns-in-Err-clause-streamed g c =
    let here = c.loop-taken.invariant.goes_on in
    memory_ends (line_job (job_of c.args.job.now)) (input_at g.I.Source c.args.input.now c.args.out.now.steps.now) (input_at g.I.Source c.loop-taken.input c.loop-taken.out.steps.now) (out_at g.O.Sink c.args.out.now.sink.now) (state_at g.O.Sink c.loop-taken.out) here.0 here.3
    (omega (arith, here.1, c.loop-taken.invariant.limit))

pub returns-clause-streamed : goal.returns-clause-streamed
returns-clause-streamed g c =
    let here = c.loop-taken.invariant.goes_on in
    limit_reached (line_job (job_of c.args.job.now)) (input_at g.I.Source c.args.input.now c.args.out.now.steps.now) (input_at g.I.Source c.loop-taken.input c.loop-taken.out.steps.now) (out_at g.O.Sink c.args.out.now.sink.now) (state_at g.O.Sink c.loop-taken.out) here.0 here.3
    (omega (arith, here.1, c.loop-taken.invariant.limit, c.loop-taken-test.false))
