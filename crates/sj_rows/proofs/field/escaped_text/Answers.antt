use Rattle.std.proofs.Common.{◌++◌}
use Rattle.std.specs.List.{flat_map}
use Rattle.sj_rows.specs.RowText.{escaped_byte}
use Rattle.sj_text.proofs.Appends.{at_error, grows_to, stays}
use Rattle.sj_text.proofs.PlainRuns.{after_run}
use Rattle.sj_rows.proofs.field.escaped_text.Goals as goal

pub returns-in_err-push_escape-in-Some-clause-err :
    goal.returns-in_err-push_escape-in-Some-clause-err
returns-in_err-push_escape-in-Some-clause-err c =
    at_error c.from_residual-in_err-push_escape-in-Some.result
    (stays c.args.out.now (flat_map escaped_byte c.args.bytes.now) c.push.new.self (escaped_byte c.in-Some.byte.now ++ flat_map escaped_byte c.in-Some.after.now) c.push_escape.new.out
    (after_run escaped_byte c.args.out.now (flat_map escaped_byte c.args.bytes.now) c.loop-rest.out c.loop-rest.rest.now c.plain_run-run.result c.in-Some.byte.now c.in-Some.after.now c.push.new.self
    c.loop-rest.invariant c.plain_run-run.ensures.plain c.in_ok-push.ensures.ok c.in-Some.ensures.cases.0) c.in_err-push_escape-in-Some.ensures.err)

pub loop-rest-preserved : goal.loop-rest-preserved
loop-rest-preserved c =
    grows_to c.args.out.now (flat_map escaped_byte c.args.bytes.now) c.push.new.self (escaped_byte c.in-Some.byte.now) (flat_map escaped_byte c.in-Some.after.now) c.push_escape.new.out
    (after_run escaped_byte c.args.out.now (flat_map escaped_byte c.args.bytes.now) c.loop-rest.out c.loop-rest.rest.now c.plain_run-run.result c.in-Some.byte.now c.in-Some.after.now c.push.new.self
    c.loop-rest.invariant c.plain_run-run.ensures.plain c.in_ok-push.ensures.ok c.in-Some.ensures.cases.0) c.in_ok-push_escape-in-Some.ensures.ok
