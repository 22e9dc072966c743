use Rattle.std.proofs.Common.{◌∙◌, sym, subst, arith}
use Rattle.sj_select_list.specs.Operations.{step_of}
use Rattle.sj_select_list.specs.Printing.{FindsValue}
use Rattle.sj_select_list.specs.declared.operation.Operation.{Operation}
use Rattle.sj_select_list.proofs.PrintedFields.{values_more}
use Rattle.sj_select_list.proofs.print.each_finds_a_value.Goals as goal

pub loop-operation-preserved : goal.loop-operation-preserved
loop-operation-preserved c =
    values_more c.args.operations.now c.loop-operation.operation-index c.operation-item.result (omega arith)
    (subst (λ (o : Operation). FindsValue (step_of o)) c.operation-item.is (sym c.finds_a_value.ensures ∙ c.if-not-finds_a_value.false)) c.loop-operation.invariant
