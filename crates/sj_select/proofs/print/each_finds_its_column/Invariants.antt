use Rattle.std.proofs.Common.{◌≡◌, drop}
use Rattle.sj_select_list.specs.Operations.{steps_of}
use Rattle.sj_select.specs.Listing.{FindsEach}
use Rattle.sj_select.proofs.print.each_finds_its_column.Given as goal

-- where the operations that are left find the columns from their number on, all of them do so from the first on
abbrev pub invariant-loop-operation : goal.invariant-loop-operation
invariant-loop-operation l = record {
  number : l.number ≡ l.operation-index;
  finds : FindsEach l.operation-index (drop l.operation-index (steps_of l.operations)) → FindsEach 0 (steps_of l.operations);
}
