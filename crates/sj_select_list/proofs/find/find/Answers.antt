use Rattle.std.proofs.Common.{◌<◌, ◌∙◌, arith, length}
use Rattle.sj_select_list.proofs.FoundValues.{first_step, step_kept, given_at, end_step, end_stop, cost_step, cost_stop}
use Rattle.sj_select_list.proofs.find.find.Goals as goal

pub perform-requires-clause-given : goal.perform-requires-clause-given
perform-requires-clause-given c =
    let within : c.loop-operation.operation-index < length c.loop-operation.operations = omega arith in
    given_at _ _ _ _ within c.loop-operation.invariant.steps c.requires.given

pub returns-in_err-state-clause-costs : goal.returns-in_err-state-clause-costs
returns-in_err-state-clause-costs c =
    let within : c.loop-operation.operation-index < length c.loop-operation.operations = omega arith in
    cost_stop _ _ _ c.loop-operation.operation-index _ _ _ _ _ (first_step _ _ _ c.operation-item.result within c.loop-operation.invariant.steps) c.perform.ensures.costs c.loop-operation.invariant.costs

pub returns-in_err-state-clause-steps : goal.returns-in_err-state-clause-steps
returns-in_err-state-clause-steps c =
    step_kept c.loop-operation.operations c.loop-operation.operation-index c.operation-item.result c.perform.new.self c.perform.ensures.step ∙ c.loop-operation.invariant.steps

pub returns-in-Some-clause-finds : goal.returns-in-Some-clause-finds
returns-in-Some-clause-finds c =
    let within : c.loop-operation.operation-index < length c.loop-operation.operations = omega arith in
    end_stop _ _ _ c.loop-operation.operation-index _ _ _ _ (first_step _ _ _ c.operation-item.result within c.loop-operation.invariant.steps) (rw c.in-Some.is at c.in_ok-state.ensures.does) c.loop-operation.invariant.ends

pub returns-in-Some-clause-costs : goal.returns-in-Some-clause-costs
returns-in-Some-clause-costs c =
    let within : c.loop-operation.operation-index < length c.loop-operation.operations = omega arith in
    cost_stop _ _ _ c.loop-operation.operation-index _ _ _ _ _ (first_step _ _ _ c.operation-item.result within c.loop-operation.invariant.steps) c.perform.ensures.costs c.loop-operation.invariant.costs

pub returns-in-Some-clause-steps : goal.returns-in-Some-clause-steps
returns-in-Some-clause-steps c =
    step_kept c.loop-operation.operations c.loop-operation.operation-index c.operation-item.result c.perform.new.self c.perform.ensures.step ∙ c.loop-operation.invariant.steps

pub loop-operation-preserved : goal.loop-operation-preserved
loop-operation-preserved c =
    let within : c.loop-operation.operation-index < length c.loop-operation.operations = omega arith in
    let first = first_step _ _ _ c.operation-item.result within c.loop-operation.invariant.steps in
    let is = rw c.in_default.is at c.in_ok-state.ensures.does in
    record {
      steps = step_kept c.loop-operation.operations c.loop-operation.operation-index c.operation-item.result c.perform.new.self c.perform.ensures.step ∙ c.loop-operation.invariant.steps;
      printable = c.perform.ensures.printable;
      ends = end_step _ _ _ c.loop-operation.operation-index _ _ _ _ first is c.loop-operation.invariant.ends;
      costs = cost_step _ _ _ c.loop-operation.operation-index _ _ _ _ _ _ first is c.perform.ensures.costs c.loop-operation.invariant.costs;
    }
