-- The path of one member.
use Rattle.std.specs.Prelude.{ℕ, List}
use Rattle.sj_path_tree.specs.declared.parts.Mode.TheVariants as mode
use Rattle.sj_path_tree.specs.Tree.{Path, Root, Access, Member}

-- lax $.key
abbrev pub member_path : List ℕ → Path
member_path key = record { mode = mode.Lax; expr = Access Root (Member key) }
