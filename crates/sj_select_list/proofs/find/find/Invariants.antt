use Rattle.std.proofs.Common.{◌≡◌, ◌≤◌, drop}
use Rattle.std.specs.List.{All}
use Rattle.sj_base.specs.Count.{raised}
use Rattle.sj_value.specs.Values.{IsPrintable}
use Rattle.sj_select_list.specs.Line.{line_of}
use Rattle.sj_select_list.specs.Operations.{steps_of}
use Rattle.sj_select_list.specs.Performing.{held, performed}
use Rattle.sj_select_list.proofs.find.find.Given as goal

-- the steps that are left end as all of them do, and may take what those may that were not taken yet
abbrev pub invariant-loop-operation : goal.invariant-loop-operation
invariant-loop-operation l = record {
  steps : steps_of l.operations ≡ steps_of l.fn.operations;
  printable : All IsPrintable l.stack.values.items;
  ends : (performed (line_of l.line) l.columns (drop l.operation-index (steps_of l.fn.operations)) (held l.stack)).end ≡ (performed (line_of l.line) l.columns (steps_of l.fn.operations) (held l.fn.stack)).end;
  costs : raised l.steps (performed (line_of l.line) l.columns (drop l.operation-index (steps_of l.fn.operations)) (held l.stack)).cost ≤ raised l.fn.steps (performed (line_of l.line) l.columns (steps_of l.fn.operations) (held l.fn.stack)).cost;
}
