use Rattle.std.proofs.Common.{◌≡◌, refl, is_some, ◌≤◌, length, false, arith, List, [], ◌∷◌}
use Rattle.sj_path_tree.specs.Tree as tree
use Rattle.sj_path_tree.specs.View.{subs_of}
use Rattle.sj_path_tree.specs.declared.tree.Sub.{Sub}
use Rattle.sj_forward.specs.Forward.{accessor_of}
use Rattle.sj_forward.proofs.form.is_one_span.Goals as goal

-- two subscripts or more are no one span
not_one : (subs : List Sub) → 2 ≤ length subs → false ≡ is_some (accessor_of (tree.Elements (subs_of subs)))
not_one [] h = absurd (omega arith)
not_one (s ∷ []) h = absurd (omega arith)
not_one (s ∷ other ∷ others) h = refl

pub returns-in_default-2 : goal.returns-in_default-2
returns-in_default-2 c = not_one c.args.subs.now c.in_default.len_at_least
