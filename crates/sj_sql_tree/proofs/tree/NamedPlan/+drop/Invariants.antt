use Rattle.std.proofs.Common.{◌≤◌}
use Rattle.sj_sql_tree.specs.declared.tree.NamedPlan.{size-NamedPlan}
use Rattle.sj_sql_tree.proofs.tree.NamedPlan.+drop.Given as goal

-- what is left lies no deeper
abbrev pub invariant-loop-self : goal.invariant-loop-self
invariant-loop-self l = size-NamedPlan l.self ≤ size-NamedPlan l.fn.self
