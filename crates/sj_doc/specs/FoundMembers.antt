-- The member that a search among children finds. Private clauses alone cite it.
use Rattle.std.specs.Prelude.{◌≡◌, ℕ, ◌<◌, List, ◌∷◌, Option, Some, None}
use Rattle.sj_json.specs.Tree.{Tree, subtree, node_count}
use Rattle.sj_doc.specs.Children.{children_left, IsChildren}
use Rattle.sj_doc.specs.Keyed.{from_key}
use Rattle.sj_doc.specs.declared.children.FoundMember.{FoundMember}

-- how many children are left behind it
abbrev pub left_behind : Option FoundMember → ℕ
left_behind None = 0
left_behind (Some s) = s.left

-- The first child under the key among the n that are left from the node i on, and those behind it.
pub record Finds (t : Tree) (i : ℕ) (n : ℕ) (key : List ℕ) (s : FoundMember) : Type 0 where
  pub within : s.child < node_count t
  pub first : from_key key (children_left t i n) ≡ (Some key, s.child, subtree t s.child) ∷ children_left t s.next s.left
  pub after : IsChildren t s.next s.left
  pub fewer : s.left < n
