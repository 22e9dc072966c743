-- The children that are left, from a node in the layout of a tree on.
use Rattle.std.specs.Prelude.{◌≡◌, ℕ, List, [], ◌∷◌, ◌++◌, length, take, drop, None}
use Rattle.sj_json.specs.Tree.{Tree, Child, numbered, NumberedChild}
use Rattle.sj_json.specs.Cells.{Entry, layout, Spine, last, into, spine}

abbrev pub first_kids : Spine → List Child
first_kids (last ks) = ks
first_kids (into ks k kind s) = ks

-- all trees that begin at the node or later and stand in no other of them
abbrev pub kids_at : Tree → ℕ → List Child
kids_at t i = first_kids (spine (drop i (layout None t)) (last []))

abbrev pub children_left : Tree → ℕ → ℕ → List NumberedChild
children_left t i n = numbered i (take n (kids_at t i))

abbrev pub layout_kids : List Child → List Entry
layout_kids [] = []
layout_kids (k ∷ ks) = layout k.0 k.1 ++ layout_kids ks

pub record IsChildren (t : Tree) (i : ℕ) (n : ℕ) : Type 0 where
  pub kids : List Child
  pub rest : List Entry
  pub lie : drop i (layout None t) ≡ layout_kids kids ++ rest
  pub count : n ≡ length kids
