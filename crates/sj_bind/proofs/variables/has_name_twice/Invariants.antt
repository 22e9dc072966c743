use Rattle.std.proofs.Common.{◌≡◌, false, ◌++◌, length}
use Rattle.sj_bind.specs.Clauses.{passed_names}
use Rattle.sj_bind.specs.Names.{names_of}
use Rattle.sj_bind.specs.Tables.{has_twice}
use Rattle.sj_bind.proofs.variables.has_name_twice.Given as goal

-- no name was seen twice, and those seen and those left are all
abbrev pub invariant-loop-variable : goal.invariant-loop-variable
invariant-loop-variable l = record {
  once : has_twice (names_of l.seen) ≡ false;
  all : names_of l.seen ++ passed_names l.left ≡ passed_names l.fn.passing;
}

abbrev pub decreases-loop-variable : goal.decreases-loop-variable
decreases-loop-variable l = length l.left
