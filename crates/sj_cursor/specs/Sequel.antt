-- What a cursor is seen as: a path with its variables, a root, and the trace that is left. What an inquiry is seen as: a path with its variables.
use Rattle.std.specs.Prelude.{refl}
use Rattle.std.specs.Coded.{Coded, code_by, coded×, coded_ℕ, coded_list}
use Rattle.sj_path_tree.specs.contracts.parts.Literal as literal
use Rattle.sj_item.specs.Items.{ItemValue}
use Rattle.sj_item.specs.Coding.{item_code}
use Rattle.sj_path_tree.specs.declared.tree.Path.{Path}
use Rattle.sj_path_tree.specs.contracts.tree.Path as path
use Rattle.sj_step.specs.Trace.{Trace}
use Rattle.sj_step.specs.Coding.{trace_code}
use Rattle.sj_path_tree.specs.Vars.{Variables}

pub record Sequel : Type 0 where
  pub path : Path
  pub vars : Variables
  pub root : ItemValue
  pub left : Trace

abbrev pub variables_code : Coded Variables
variables_code = coded_list (coded× (coded_list coded_ℕ) literal.the_row.coded)

abbrev pub sequel_code : Coded Sequel
sequel_code =
    code_by (Path × (Variables × (ItemValue × Trace))) (coded× path.the_row.coded (coded× variables_code (coded× item_code trace_code)))
    (λ s. (s.path, (s.vars, (s.root, s.left)))) (λ p. record { path = p.0; vars = p.1.0; root = p.1.1.0; left = p.1.1.1 }) (λ _. refl)

pub record Inquired : Type 0 where
  pub path : Path
  pub vars : Variables

abbrev pub inquired_code : Coded Inquired
inquired_code = code_by (Path × Variables) (coded× path.the_row.coded variables_code) (λ q. (q.path, q.vars)) (λ p. record { path = p.0; vars = p.1 }) (λ _. refl)
