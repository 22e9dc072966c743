-- The text of a tree without white space.
use Rattle.std.specs.Prelude.{ℕ, ◌/◌, ◌%◌, ◌==◌, nat_lt, cond, List, [], ◌∷◌, ◌++◌, Bool, true, false, codes, ⊤}
use Rattle.std.specs.List.{AllByRecursion, flat_map}
use Rattle.std.specs.Char.{digit_char}
use Rattle.sj_decimal.specs.Normal.{IsDecimal}
use Rattle.sj_decimal.specs.Number.{SpellsWide}
use Rattle.sj_decimal.specs.Text.{decimal_text}
use Rattle.sj_json.specs.Tree.{Number, exact, wide, Tree, null, truth, string, number, array, object, Items, no_items, item, Members, no_members, member, subtrees}

-- an exact number by its text, and another by its spelling
abbrev pub printed_number : Number → List ℕ
printed_number (exact d) = decimal_text d
printed_number (wide s) = s

-- A backslash stands before a quotation mark and a backslash. A control character is an escape, by its letter
-- where it has one, else "\u00" and two lower-case digits. All else stands for itself.
abbrev pub printed_byte : ℕ → List ℕ
printed_byte b =
    cond (b == 34) (codes "\\\"") (cond (b == 92) (codes "\\\\") (cond (b == 8) (codes "\\b") (cond (b == 9) (codes "\\t") (cond (b == 10) (codes "\\n") (cond (b == 12) (codes "\\f")
    (cond (b == 13) (codes "\\r") (cond (nat_lt b 32) (codes "\\u00" ++ digit_char (b / 16) ∷ digit_char (b % 16) ∷ []) (b ∷ []))))))))

abbrev pub printed_string : List ℕ → List ℕ
printed_string s = 34 ∷ flat_map printed_byte s ++ 34 ∷ []

-- the two words, in lower case
abbrev pub truth_text : Bool → List ℕ
truth_text true = codes "true"
truth_text false = codes "false"

abbrev mutual
  pub printed : Tree → List ℕ
  printed null = codes "null"
  printed (truth b) = truth_text b
  printed (string s) = printed_string s
  printed (number v) = printed_number v
  printed (array ts) = 91 ∷ printed_items ts ++ 93 ∷ []
  printed (object ms) = 123 ∷ printed_members ms ++ 125 ∷ []

  pub printed_items : Items → List ℕ
  printed_items no_items = []
  printed_items (item t ts) = printed t ++ printed_more_items ts

  pub printed_more_items : Items → List ℕ
  printed_more_items no_items = []
  printed_more_items (item t ts) = 44 ∷ printed t ++ printed_more_items ts

  pub printed_members : Members → List ℕ
  printed_members no_members = []
  printed_members (member k t ms) = printed_string k ++ (58 ∷ printed t ++ printed_more_members ms)

  pub printed_more_members : Members → List ℕ
  printed_more_members no_members = []
  printed_more_members (member k t ms) = 44 ∷ printed_string k ++ (58 ∷ printed t ++ printed_more_members ms)

-- an exact number in normal form and within the limits, or the spelling of a number that is not exact
abbrev pub IsWellMade : Number → Type 0
IsWellMade (exact d) = IsDecimal d
IsWellMade (wide s) = SpellsWide s

-- a node of a tree, without those below it
abbrev pub IsNode : Tree → Type 0
IsNode null = ⊤
IsNode (truth b) = ⊤
IsNode (string s) = ⊤
IsNode (number v) = IsWellMade v
IsNode (array ts) = ⊤
IsNode (object ms) = ⊤

-- Each number of the tree is well made. Every document is such a tree.
abbrev pub IsTree : Tree → Type 0
IsTree t = AllByRecursion IsNode (subtrees t)
