use Rattle.std.proofs.Common.{ℕ, ◌<◌, get_or}
use Rattle.sj_select_list.specs.Operations.{OperationStep, steps_of}
use Rattle.sj_select_list.specs.Printing.{FindsValue}
use Rattle.sj_select_list.proofs.print.each_finds_a_value.Given as goal

-- the operations so far find a value each
abbrev pub invariant-loop-operation : goal.invariant-loop-operation
invariant-loop-operation l = (k : ℕ) (d : OperationStep) → k < l.operation-index → FindsValue (get_or (steps_of l.operations) k d)
