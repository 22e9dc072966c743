use Rattle.std.proofs.Common.{◌<◌, ◌∙◌, Ok, None, Some, arith, length, get_or, refl}
use Rattle.sj_func.specs.Fields.{AppendsOutcome}
use Rattle.sj_select_list.specs.Line.{line_of}
use Rattle.sj_select_list.specs.Operations.{step_of}
use Rattle.sj_select_list.specs.Printing.{FindsValue, found_by}
use Rattle.sj_select_list.proofs.FoundValues.{first_step, step_kept, given_at}
use Rattle.sj_select_list.proofs.GatheredOutcomes.{held_at}
use Rattle.sj_select_list.proofs.PrintedFields.{come_none, come_more, come_raised, come_within, come_extends, steps_stopped}
use Rattle.sj_select_list.proofs.print.print_each.Goals as goal

pub loop-operation-init : goal.loop-operation-init
loop-operation-init c = record { steps = refl; come = come_none _ _ _ _ _ }

pub print-requires-clause-given : goal.print-requires-clause-given
print-requires-clause-given c =
    let within : c.loop-operation.operation-index < length c.loop-operation.operations = omega arith in
    given_at _ _ _ _ within c.loop-operation.invariant.steps c.requires.given

pub print-requires-clause-value : goal.print-requires-clause-value
print-requires-clause-value c =
    let within : c.loop-operation.operation-index < length c.loop-operation.operations = omega arith in
    held_at step_of FindsValue _ _ _ _ within c.loop-operation.invariant.steps c.requires.values

pub returns-in_err-state-clause-prints : goal.returns-in_err-state-clause-prints
returns-in_err-state-clause-prints c =
    let within : c.loop-operation.operation-index < length c.loop-operation.operations = omega arith in
    steps_stopped _ _ _ _ c.from_residual.ensures.0
    (come_extends _ _ _ _ _ _ _ _ _ c.loop-operation.invariant.come (first_step _ _ _ c.operation-item.result within c.loop-operation.invariant.steps) (held_at step_of FindsValue _ _ _ c.operation-item.result within c.loop-operation.invariant.steps c.requires.values) _ c.in_err-state.ensures.appends)

pub returns-in_err-state-clause-costs : goal.returns-in_err-state-clause-costs
returns-in_err-state-clause-costs c =
    let within : c.loop-operation.operation-index < length c.loop-operation.operations = omega arith in
    come_within _ _ _ _ _ _ _ _ _ c.loop-operation.invariant.come (first_step _ _ _ c.operation-item.result within c.loop-operation.invariant.steps) (held_at step_of FindsValue _ _ _ c.operation-item.result within c.loop-operation.invariant.steps c.requires.values) _ c.print.ensures.costs

pub returns-in_err-state-clause-steps : goal.returns-in_err-state-clause-steps
returns-in_err-state-clause-steps c =
    step_kept c.loop-operation.operations c.loop-operation.operation-index c.operation-item.result c.print.new.self c.print.ensures.step ∙ c.loop-operation.invariant.steps

pub returns-in-Some-clause-prints : goal.returns-in-Some-clause-prints
returns-in-Some-clause-prints c =
    let within : c.loop-operation.operation-index < length c.loop-operation.operations = omega arith in
    let raised : AppendsOutcome (found_by (line_of c.args.line) c.args.columns.now (step_of (get_or c.loop-operation.operations c.loop-operation.operation-index c.operation-item.result))) (Ok (Some c.in-Some.state)) c.loop-operation.out c.print.new.out = rw c.in-Some.is at c.in_ok-state.ensures.appends in
    come_raised _ _ _ _ _ _ _ _ _ c.loop-operation.invariant.come (first_step _ _ _ c.operation-item.result within c.loop-operation.invariant.steps) (held_at step_of FindsValue _ _ _ c.operation-item.result within c.loop-operation.invariant.steps c.requires.values) _ _ raised.0 raised.1

pub returns-in-Some-clause-costs : goal.returns-in-Some-clause-costs
returns-in-Some-clause-costs c =
    let within : c.loop-operation.operation-index < length c.loop-operation.operations = omega arith in
    come_within _ _ _ _ _ _ _ _ _ c.loop-operation.invariant.come (first_step _ _ _ c.operation-item.result within c.loop-operation.invariant.steps) (held_at step_of FindsValue _ _ _ c.operation-item.result within c.loop-operation.invariant.steps c.requires.values) _ c.print.ensures.costs

pub returns-in-Some-clause-steps : goal.returns-in-Some-clause-steps
returns-in-Some-clause-steps c =
    step_kept c.loop-operation.operations c.loop-operation.operation-index c.operation-item.result c.print.new.self c.print.ensures.step ∙ c.loop-operation.invariant.steps

pub loop-operation-preserved : goal.loop-operation-preserved
loop-operation-preserved c =
    let within : c.loop-operation.operation-index < length c.loop-operation.operations = omega arith in
    let appended : AppendsOutcome (found_by (line_of c.args.line) c.args.columns.now (step_of (get_or c.loop-operation.operations c.loop-operation.operation-index c.operation-item.result))) (Ok None) c.loop-operation.out c.print.new.out = rw c.in_default.is at c.in_ok-state.ensures.appends in
    record {
      steps = step_kept c.loop-operation.operations c.loop-operation.operation-index c.operation-item.result c.print.new.self c.print.ensures.step ∙ c.loop-operation.invariant.steps;
      come = come_more _ _ _ _ _ _ _ _ _ c.loop-operation.invariant.come (first_step _ _ _ c.operation-item.result within c.loop-operation.invariant.steps) (held_at step_of FindsValue _ _ _ c.operation-item.result within c.loop-operation.invariant.steps c.requires.values) _ _ appended c.print.ensures.costs;
    }
