-- The answer of the binding of a statement.
use Rattle.std.specs.Prelude.{◌≡◌, Result, Ok, Err, Some, None}
use Rattle.sj_path_tree.specs.Tree.{Path}
use Rattle.sj_sql_grammar.specs.Tree.{Statement}
use Rattle.sj_bound.specs.declared.bound.Bound.{Bound}
use Rattle.sj_bind.specs.declared.refusal.BindRefusal.{BindRefusal}
use Rattle.sj_bind.specs.declared.refusal.BindRefusal.TheVariants.{Kind, Memory}
use Rattle.sj_bind.specs.Meaning.{bound}
use Rattle.sj_bind.specs.Rules.{bind_fault}
use Rattle.sj_bound.specs.View.{bound_of}

-- The statement breaks no rule and is bound, or it breaks a rule and the first that it breaks is named, or memory ran out.
abbrev pub Binds : Statement Path → Result Bound BindRefusal → Type 0
Binds s (Ok b) = (bind_fault s ≡ None) × (bound_of b ≡ bound s)
Binds s (Err (Kind kind)) = bind_fault s ≡ Some kind
Binds s (Err Memory) = Unit {0}
