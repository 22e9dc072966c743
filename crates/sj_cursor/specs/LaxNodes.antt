-- Expressions that are a node, where they are evaluated in lax mode.
use Rattle.std.specs.Prelude.{◌≡◌}
use Rattle.sj_doc.specs.declared.doc.NodeRef.{NodeRef}
use Rattle.sj_path_tree.specs.Tree as t
use Rattle.sj_path_tree.specs.declared.parts.Mode.TheVariants.{Lax}
use Rattle.sj_step.specs.Trace.{only}
use Rattle.sj_plain_path.specs.Chains.{node_value}
use Rattle.sj_cursor.specs.Meaning.{Env, meaning}

pub record IsLaxNode (e : t.Expr) (env : Env) (n : NodeRef) : Type 0 where
  pub lax : env.mode ≡ Lax
  pub is : meaning e env ≡ only (node_value n)
