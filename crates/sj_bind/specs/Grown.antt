-- The plans of PLAN DEFAULT, joined one after another as their paths come in the text.
use Rattle.std.specs.Prelude.{ℕ, List, [], ◌∷◌, Option, Some, None}
use Rattle.sj_sql_grammar.specs.declared.clauses.InOut.{InOut}
use Rattle.sj_sql_grammar.specs.declared.clauses.Siblings.{Siblings}
use Rattle.sj_value.specs.Plans.{PlanTree, path_rows}
use Rattle.sj_bind.specs.Plans.{joined, beside}

-- one plan more, beside those before it
abbrev pub one_more : Siblings → Option PlanTree → PlanTree → Option PlanTree
one_more siblings None plan = Some plan
one_more siblings (Some before) plan = Some (beside siblings before plan)

abbrev pub with_all : Siblings → Option PlanTree → List PlanTree → Option PlanTree
with_all siblings before [] = before
with_all siblings before (plan ∷ plans) = with_all siblings (one_more siblings before plan) plans

-- a path over the plan of its nested paths, where it has some
abbrev pub path_over : InOut → ℕ → Option PlanTree → PlanTree
path_over in_out path None = path_rows path
path_over in_out path (Some below) = joined in_out path below
