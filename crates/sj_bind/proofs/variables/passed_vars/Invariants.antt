use Rattle.std.proofs.Common.{◌≡◌, ◌++◌}
use Rattle.std.specs.Vec.Iter.{into_iter_items}
use Rattle.sj_bind.specs.Clauses.{passed}
use Rattle.sj_bind.proofs.variables.passed_vars.Given as goal

-- the variables so far, and those that are left
abbrev pub invariant-loop-variable : goal.invariant-loop-variable
invariant-loop-variable l = record {
  can_next : (goal.iterator-loop-variable).can_next l.variable-iterator;
  is_finite : (goal.iterator-loop-variable).is_finite l.variable-iterator;
  all : l.vars ++ passed (into_iter_items l.variable-iterator) ≡ passed l.fn.passing;
}
