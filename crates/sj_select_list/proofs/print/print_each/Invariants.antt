use Rattle.std.proofs.Common.{◌≡◌}
use Rattle.sj_select_list.specs.Line.{line_of}
use Rattle.sj_select_list.specs.Operations.{steps_of}
use Rattle.sj_select_list.proofs.PrintedFields.{HasCome}
use Rattle.sj_select_list.proofs.print.print_each.Given as goal

-- the operations so far have printed their values
abbrev pub invariant-loop-operation : goal.invariant-loop-operation
invariant-loop-operation l = record {
  steps : steps_of l.operations ≡ steps_of l.fn.operations;
  come : HasCome (line_of l.line) l.columns (steps_of l.fn.operations) l.operation-index l.fn.out l.out l.fn.steps l.steps;
}
