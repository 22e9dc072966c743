-- Function values that read things one level deeper.
use Rattle.std.specs.Prelude.{ℕ, Result}
use Rattle.std.specs.declared.alloc.Global.{Global}
use Rattle.std.specs.Borrow.{Bor}
use Rattle.sj_base.specs.declared.refusal.ParseRefusal.{ParseRefusal}
use Rattle.sj_base.specs.Gives.{Gives}
use Rattle.sj_sql_grammar.specs.Faults.{parsing}
use Rattle.sj_sql_grammar.specs.Phrases.{Tokens}
use Rattle.sj_sql_grammar.specs.Reading.{value_at, columns_at}
use Rattle.sj_sql.specs.declared.faults.Faults.{Faults}
use Rattle.sj_sql.specs.declared.asking.Source.{Source}
use Rattle.sj_sql_tree.specs.declared.tree.Columns.{Columns}
use Rattle.sj_sql_tree.specs.declared.tree.Value.{Value}
use Rattle.sj_sql.specs.Noted.{faults_of}
use Rattle.sj_sql.specs.Sources.{source_of}
use Rattle.sj_sql_tree.specs.View.{value_of, columns_of}

-- it reads the values of a SELECT list
pub record Nests (source : Source) (depth : ℕ) (pre : Global → Source → ℕ → Faults → Bor Tokens → Type 0)
    (post : Global → Source → ℕ → Faults → Bor Tokens → Result (Value × Faults × Bor Tokens) ParseRefusal → Type 0) : Type 0 where
  pub callable : (alloc : Global) (faults : Faults) (tokens : Bor Tokens) → pre alloc source depth faults tokens
  pub reads : (alloc : Global) (faults : Faults) (tokens : Bor Tokens) (r : Result (Value × Faults × Bor Tokens) ParseRefusal) → post alloc source depth faults tokens r
      → Gives (λ x. (value_of x.0, faults_of x.1, x.2.now)) r (value_at parsing (source_of source) depth (faults_of faults) tokens.now)

-- the columns of a table
pub record ColumnNests (depth : ℕ) (pre : Global → ℕ → Faults → Bor Tokens → Type 0)
    (post : Global → ℕ → Faults → Bor Tokens → Result (Columns × Faults × Bor Tokens) ParseRefusal → Type 0) : Type 0 where
  pub callable : (alloc : Global) (faults : Faults) (tokens : Bor Tokens) → pre alloc depth faults tokens
  pub reads : (alloc : Global) (faults : Faults) (tokens : Bor Tokens) (r : Result (Columns × Faults × Bor Tokens) ParseRefusal) → post alloc depth faults tokens r
      → Gives (λ x. (columns_of x.0, faults_of x.1, x.2.now)) r (columns_at parsing depth (faults_of faults) tokens.now)
