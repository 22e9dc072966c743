use Rattle.std.proofs.Common.{rules, ◌≡◌, ◌++◌, List, [], length, map, ◌≤◌, ℕ, refl, sym, ◌∙◌, arith, length-append}
use Rattle.sj_rows.specs.Lines.{max_input}
use Rattle.sj_file.specs.declared.status.Status.TheVariants.{InputLimit}
use Rattle.sj_stream.specs.Input.{input_at}
use Rattle.sj_stream.specs.Out.{state_at, out_at}
use Rattle.sj_stream.proofs.Loans.{loans_on}
use Rattle.sj_stream.proofs.Streaming.{limit_reached, ended_otherwise}
use Rattle.sj_group_run.proofs.group.take_lines.Goals as goal

pub take_turns-requires-clause-goes_on : goal.take_turns-requires-clause-goes_on
take_turns-requires-clause-goes_on g c =
    let began = c.requires.begins.1 in
    let here = c.loop-taken.invariant.goes_on began.0 began.1 in
    (began.0, input_at g.I.Source c.args.input.now c.args.out.now.steps.now, out_at g.O.Sink c.args.out.now.sink.now, here.0, omega (arith, here.1, c.loop-taken.invariant.limit), (here.2, (here.4, here.3)))

pub loop-taken-preserved : goal.loop-taken-preserved
loop-taken-preserved g c = record {
  limit = omega (arith, c.in-More.ensures.bound.1, c.loop-taken.invariant.limit);
  a_piece = search rules;
  lent = loans_on c.args.out.now c.loop-taken.out c.take_turns.new.out c.loop-taken.invariant.lent c.take_turns.ensures.lent;
  goes_on = λ job saw.
      let here = c.loop-taken.invariant.goes_on job saw in
      let t = c.in-More.ensures.turned job (input_at g.I.Source c.args.input.now c.args.out.now.steps.now) (out_at g.O.Sink c.args.out.now.sink.now) here.0 (omega (arith, here.1, c.loop-taken.invariant.limit)) (here.2, (here.4, here.3)) in
      (here.0 ++ t.0, omega (arith, length-append here.0 t.0, here.1, t.1), t.2.0, t.2.1.1, t.2.1.0);
}

pub returns-in-Over-clause-streamed : goal.returns-in-Over-clause-streamed
returns-in-Over-clause-streamed g c = λ job saw.
    let here = c.loop-taken.invariant.goes_on job saw in
    c.in-Over.ensures.turned job (input_at g.I.Source c.args.input.now c.args.out.now.steps.now) (out_at g.O.Sink c.args.out.now.sink.now) here.0 (omega (arith, here.1, c.loop-taken.invariant.limit)) (here.2, (here.4, here.3))

pub returns-clause-streamed : goal.returns-clause-streamed
returns-clause-streamed g c = λ job saw.
    let here = c.loop-taken.invariant.goes_on job saw in
    ended_otherwise _ job _ _ _ _ InputLimit (λ is. absurd (cc is))
    (limit_reached job (input_at g.I.Source c.args.input.now c.args.out.now.steps.now) (input_at g.I.Source c.loop-taken.input c.loop-taken.out.steps.now) (out_at g.O.Sink c.args.out.now.sink.now) (state_at g.O.Sink c.loop-taken.out) here.0 here.2
    (omega (arith, here.1, c.loop-taken.invariant.limit, c.loop-taken-test.false)))
