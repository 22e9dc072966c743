-- The tree of a text.
use Rattle.std.specs.Prelude.{ℕ, nat_le, List, length, ◌&&◌, cond, Option, None}
use Rattle.std.specs.Str.{is_utf8}
use Rattle.sj_json.specs.Tree.{Tree}
use Rattle.sj_json.specs.Spelling.{max_length, max_depth}
use Rattle.sj_json.specs.Machine.{reading}

-- The tree that a text spells, and none where the text is not JSON. By the law `one_document` this is all
-- that there is to say of it, and nobody needs to read how it is found.
unfoldable pub document : List ℕ → Option Tree
document b = cond (is_utf8 b && nat_le (length b) max_length) (reading max_depth b) None
