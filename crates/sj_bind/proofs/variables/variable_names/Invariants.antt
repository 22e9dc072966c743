use Rattle.std.proofs.Common.{◌≡◌, ℕ, List, ◌||◌, length}
use Rattle.sj_base.specs.Names.{is_among}
use Rattle.sj_path_tree.specs.Vars.{has_name}
use Rattle.sj_bind.specs.Clauses.{passed}
use Rattle.sj_bind.specs.Names.{names_of}
use Rattle.sj_bind.proofs.variables.variable_names.Given as goal

-- a name is that of a variable where it is there or is one of those left
abbrev pub invariant-loop-variable : goal.invariant-loop-variable
invariant-loop-variable l = (name : List ℕ) → (is_among (names_of l.names) name || has_name (passed l.left) name) ≡ has_name (passed l.fn.passing) name

abbrev pub decreases-loop-variable : goal.decreases-loop-variable
decreases-loop-variable l = length l.left
