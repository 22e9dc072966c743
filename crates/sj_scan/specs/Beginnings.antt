-- The bytes with which a JSON text begins.
use Rattle.std.specs.Prelude.{ℕ, ◌≤◌, List, ◌++◌, length, IsUtf8}
use Rattle.sj_json.specs.Tree.{Tree, depth}
use Rattle.sj_json.specs.Spelling.{SpellsText, max_length, max_depth}

-- a JSON text of any length, in UTF-8 and within the limit of depth
abbrev pub IsText : List ℕ → Type 0
IsText b = IsUtf8 b × ((t : Tree) × SpellsText t b × (depth t ≤ max_depth))

-- The bytes are not too long already, and some bytes make them a text. How long that text is then is not asked.
abbrev pub BeginsText : List ℕ → Type 0
BeginsText h = (length h ≤ max_length) × ((rest : List ℕ) × IsText (h ++ rest))
