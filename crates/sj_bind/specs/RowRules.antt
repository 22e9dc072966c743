-- The rules on names and on keys beside a table.
use Rattle.std.specs.Prelude.{ℕ, Bool, not, List}
use Rattle.sj_base.specs.Names.{is_among}
use Rattle.sj_path_tree.specs.Tree.{Path}
use Rattle.sj_sql_grammar.specs.Tree.{Value}
use Rattle.sj_bind.specs.Rules.{is_key}

-- a name that is none of these
abbrev pub is_unknown : List (List ℕ) → List ℕ → Bool
is_unknown names name = not (is_among names name)

-- a key that is not allowed beside columns of which these are texts
abbrev pub is_wrong_key : List (List ℕ) → Value Path → Bool
is_wrong_key texts key = not (is_key texts key)
