-- The source of a path, by its number among paths as they lie in memory.
use Rattle.std.proofs.Common.{◌≡◌, ℕ, List, map, Some, option_map, slice_get, ap, sym, ◌∙◌}
use Rattle.std.proofs.lemmas.Option.{slice_get-map}
use Rattle.sj_path_tree.specs.View.{path_of}
use Rattle.sj_path_tree.specs.declared.tree.Path.{Path}
use Rattle.sj_path_tree.specs.Vars.{Variables}
use Rattle.sj_table.specs.Rows.{source, source_of}

pub source_named : (paths : List Path) (vars : Variables) (n : ℕ) (path : Path)
    → slice_get paths n ≡ Some path → source (map path_of paths) vars n ≡ source_of n (Some (path_of path)) vars
source_named paths vars n path e = ap (λ p. source_of n p vars) (slice_get-map path_of paths n ∙ ap (option_map path_of) e)

-- the same of a path and variables that were kept
pub source_kept : (paths : List Path) (vars kept_vars : Variables) (n : ℕ) (path kept : Path)
    → slice_get paths n ≡ Some path → kept ≡ path → kept_vars ≡ vars → source_of n (Some (path_of kept)) kept_vars ≡ source (map path_of paths) vars n
source_kept paths vars kept_vars n path kept e p v =
    ap (λ q. source_of n (Some (path_of q)) kept_vars) p ∙ ap (source_of n (Some (path_of path))) v ∙ sym (source_named paths vars n path e)
