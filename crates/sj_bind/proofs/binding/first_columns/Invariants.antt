use Rattle.std.proofs.Common.{◌≡◌, length}
use Rattle.sj_bind.specs.Meaning.{columns_below}
use Rattle.sj_bound.specs.View as view
use Rattle.sj_bind.proofs.binding.first_columns.Given as goal

-- the columns so far
abbrev pub invariant-loop-number : goal.invariant-loop-number
invariant-loop-number l = record {
  few : length l.items ≡ l.number;
  all : view.items_of l.items ≡ columns_below l.number;
}
