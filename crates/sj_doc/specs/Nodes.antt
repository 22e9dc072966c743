-- What the nodes stand for, over the text of all strings, keys and numbers.
use Rattle.std.specs.Prelude.{◌≡◌, ℕ, ◌+◌, ◌<◌, ◌≤◌, List, [], ◌∷◌, take, drop, map, length, None, option_map, unwrap_or, IfSome, IsUtf8, ⊤}
use Rattle.std.specs.List.{AllByRecursion}
use Rattle.sj_decimal.specs.Number.{IsNumber, SpellsWide}
use Rattle.sj_json.specs.Tree.{Number, wide}
use Rattle.sj_json.specs.Numbers.{number_of}
use Rattle.sj_json.specs.Cells.{Cell, null_cell, truth_cell, string_cell, number_cell, closed, opened, Entry, layout, tree_of}
use Rattle.sj_json.specs.Links.{ups}
use Rattle.sj_doc.specs.Limits.{most_nodes}
use Rattle.sj_doc.specs.declared.node.Span.{Span}
use Rattle.sj_doc.specs.declared.node.Body.{Body}
use Rattle.sj_doc.specs.declared.node.Body.TheVariants.{Null, Truth, Text, Numeral, Closed, Opened}
use Rattle.sj_doc.specs.declared.node.Node.{Node}

abbrev pub text_in : List ℕ → Span → List ℕ
text_in arena s = take s.len (drop s.start arena)

-- the number that a numeral spells
abbrev pub spelled : List ℕ → Number
spelled b = unwrap_or (number_of b) (wide b)

-- the greatest length of a number whose text is kept before it is known whether its value is exact
abbrev pub longest_kept : ℕ
longest_kept = 64

-- a number as a document may keep it: where its text is longer, its value is not exact, so none has to be read
pub record IsNumeral (b : List ℕ) : Type 0 where
  pub number : IsNumber b
  pub long : longest_kept < length b → SpellsWide b

-- of a node that says how many nodes lie below it
abbrev pub cell_of : List ℕ → ℕ → Body → Cell
cell_of arena below Null = null_cell
cell_of arena below (Truth b) = truth_cell b
cell_of arena below (Text s) = string_cell (text_in arena s)
cell_of arena below (Numeral s) = number_cell (spelled (text_in arena s))
cell_of arena below (Closed kind n up) = closed kind n below
cell_of arena below (Opened kind parent n) = opened kind parent n

abbrev pub entry_of : List ℕ → Node → Entry
entry_of arena n = (option_map (text_in arena) n.key, cell_of arena n.below n.body)

abbrev pub entries : List ℕ → List Node → List Entry
entries arena nodes = map (entry_of arena) nodes

-- it lies so far behind its parent, if it is a complete container; others do not say how far
abbrev pub IsLink : ℕ → Body → Type 0
IsLink far Null = ⊤
IsLink far (Truth b) = ⊤
IsLink far (Text s) = ⊤
IsLink far (Numeral s) = ⊤
IsLink far (Closed kind n up) = up ≡ far
IsLink far (Opened kind parent n) = ⊤

-- as many nodes as distances, and each node lies so far behind its parent
abbrev pub AreLinks : List ℕ → List Node → Type 0
AreLinks [] [] = ⊤
AreLinks [] (n ∷ nodes) = ⊥
AreLinks (far ∷ fars) [] = ⊥
AreLinks (far ∷ fars) (n ∷ nodes) = IsLink far n.body × AreLinks fars nodes

-- a range lies in the text, and is text itself
abbrev pub IsSpan : List ℕ → Span → Type 0
IsSpan arena s = (s.start + s.len ≤ length arena) × IsUtf8 (text_in arena s)

abbrev pub IsBody : List ℕ → Body → Type 0
IsBody arena Null = ⊤
IsBody arena (Truth b) = ⊤
IsBody arena (Text s) = IsSpan arena s
IsBody arena (Numeral s) = IsSpan arena s × IsNumeral (text_in arena s)
IsBody arena (Closed kind n up) = ⊤
IsBody arena (Opened kind parent n) = ⊤

-- no node lies below, unless it is a complete container
abbrev pub IsBelow : ℕ → Body → Type 0
IsBelow below Null = below ≡ 0
IsBelow below (Truth b) = below ≡ 0
IsBelow below (Text s) = below ≡ 0
IsBelow below (Numeral s) = below ≡ 0
IsBelow below (Closed kind n up) = ⊤
IsBelow below (Opened kind parent n) = below ≡ 0

abbrev pub IsNode : List ℕ → Node → Type 0
IsNode arena n = IfSome n.key (IsSpan arena) × IsBody arena n.body × IsBelow n.below n.body

-- the nodes lay out a tree
pub record IsDoc (arena : List ℕ) (nodes : List Node) : Type 0 where
  pub laid : entries arena nodes ≡ layout None (tree_of (entries arena nodes))
  pub linked : AreLinks (ups 0 (tree_of (entries arena nodes))) nodes
  pub fits : AllByRecursion (IsNode arena) nodes
  pub small : length nodes ≤ most_nodes
