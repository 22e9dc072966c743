use Rattle.std.proofs.Common.{◌≡◌, ◌++◌, map, drop}
use Rattle.sj_bound.specs.View as bound
use Rattle.sj_select.specs.Columns.{with_variables}
use Rattle.sj_select.specs.Filling.{column_of}
use Rattle.sj_select.proofs.columns.columns_of.Given as goal

-- the columns so far and those that are left are all
abbrev pub invariant-loop-column : goal.invariant-loop-column
invariant-loop-column l =
    map column_of l.columns.items ++ map (with_variables l.table.vars) (bound.columns_of (drop l.column-index l.column-items)) ≡ map (with_variables l.table.vars) (bound.columns_of l.column-items)
