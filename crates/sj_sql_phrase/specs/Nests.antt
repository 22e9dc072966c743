-- A function value that reads a plan one level deeper.
use Rattle.std.specs.Prelude.{ℕ, Result}
use Rattle.std.specs.declared.alloc.Global.{Global}
use Rattle.std.specs.Borrow.{Bor}
use Rattle.sj_base.specs.declared.refusal.ParseRefusal.{ParseRefusal}
use Rattle.sj_base.specs.Gives.{Gives}
use Rattle.sj_sql_grammar.specs.Phrases.{Tokens}
use Rattle.sj_sql_grammar.specs.Reading.{plan_expr_at}
use Rattle.sj_sql_tree.specs.declared.tree.NamedPlan.{NamedPlan}
use Rattle.sj_sql_tree.specs.View.{plan_of}

-- the plan of a table
pub record PlanNests (depth : ℕ) (pre : Global → ℕ → Bor Tokens → Type 0) (post : Global → ℕ → Bor Tokens → Result (NamedPlan × Bor Tokens) ParseRefusal → Type 0) : Type 0 where
  pub callable : (alloc : Global) (tokens : Bor Tokens) → pre alloc depth tokens
  pub reads : (alloc : Global) (tokens : Bor Tokens) (r : Result (NamedPlan × Bor Tokens) ParseRefusal) → post alloc depth tokens r
      → Gives (λ x. (plan_of x.0, x.1.now)) r (plan_expr_at depth tokens.now)
