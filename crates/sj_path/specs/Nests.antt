-- A function value that reads an expression or a predicate one level deeper.
use Rattle.std.specs.Prelude.{ℕ, Result}
use Rattle.std.specs.declared.alloc.Global.{Global}
use Rattle.std.specs.Borrow.{Bor}
use Rattle.sj_base.specs.declared.refusal.ParseRefusal.{ParseRefusal}
use Rattle.sj_base.specs.Gives.{Gives}
use Rattle.sj_path.specs.declared.found.ExprOrPred.{ExprOrPred}
use Rattle.sj_path_grammar.specs.Grammar.{Tokens}
use Rattle.sj_path_grammar.specs.Reading.{expr_or_pred_at}
use Rattle.sj_path.specs.Found.{expr_or_pred_of}

pub record Nests (depth : ℕ) (pre : Global → ℕ → Bor Tokens → Type 0)
    (post : Global → ℕ → Bor Tokens → Result (ExprOrPred × Bor Tokens) ParseRefusal → Type 0) : Type 0 where
  pub callable : (alloc : Global) (tokens : Bor Tokens) → pre alloc depth tokens
  pub reads : (alloc : Global) (tokens : Bor Tokens) (r : Result (ExprOrPred × Bor Tokens) ParseRefusal) → post alloc depth tokens r
      → Gives (λ x. (expr_or_pred_of x.0, x.1.now)) r (expr_or_pred_at depth tokens.now)
