-- By what a path is asked.
use Rattle.std.specs.Prelude.{◌≡◌}
use Rattle.sj_path_tree.specs.View.{path_of}
use Rattle.sj_path_tree.specs.Vars.{Variables}
use Rattle.sj_path_tree.specs.declared.tree.Path.{Path}
use Rattle.sj_plain_path.specs.Chains.{IsChainOf}
use Rattle.sj_cursor.specs.declared.inquiry.Asking.{Asking}
use Rattle.sj_cursor.specs.declared.inquiry.Asking.TheVariants as asking

-- the accessors or the cursor are those of the path, with these variables
abbrev pub IsAsking : Path → Variables → Asking → Type 0
IsAsking path vars (asking.Chain chain) = IsChainOf (path_of path) chain
IsAsking path vars (asking.Cursor cursor) = (cursor.value.path ≡ path) × (cursor.value.vars ≡ vars)
