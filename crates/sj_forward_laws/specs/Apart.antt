-- Nodes that lie apart. A node's number is its place in preorder, which is the order of the text, and the nodes below it have the numbers
-- that follow.
use Rattle.std.specs.Prelude.{◌≡◌, ℕ, ◌+◌, ◌-◌, ◌<◌, ◌≤◌}
use Rattle.sj_json.specs.Tree.{Tree, below, subtree}
use Rattle.sj_item.specs.Items.{ItemValue, node}

-- The item is a node of the tree t, whose root has the number i.
abbrev pub IsNodeOf : ℕ → Tree → ItemValue → Type 0
IsNodeOf i t (node j u) = (i ≤ j) × (j ≤ i + below t) × (subtree t (j - i) ≡ u)
IsNodeOf i t x = ⊥

-- The node y comes behind x and all that is below x. So neither is part of the other.
abbrev pub IsBefore : ItemValue → ItemValue → Type 0
IsBefore (node i t) (node j u) = i + below t < j
IsBefore x y = ⊥
