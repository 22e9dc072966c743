-- A tree as the list of its nodes in preorder, and back. This is also how the logic stores a tree.
use Rattle.std.specs.Prelude.{ℕ, List, [], ◌∷◌, ◌++◌, length, take, drop, Bool, true, false, Option, Some, None}
use Rattle.sj_json.specs.Tree.{Number, Tree, null, truth, string, number, array, object, Items, no_items, item, Members, no_members, member, Child, item_list, member_list, below}

-- A node without the nodes below it. An array and an object have the number of their children, and of
-- all nodes below them. While it is being built, an open one has the number of its parent and of the
-- children that its parent had before it.
pub data Cell : Type 0 where
  null_cell : Cell
  truth_cell : Bool → Cell
  string_cell : List ℕ → Cell
  number_cell : Number → Cell
  closed : Bool → ℕ → ℕ → Cell
  opened : Bool → ℕ → ℕ → Cell

-- a node under its key
abbrev pub Entry : Type 0
Entry = Option (List ℕ) × Cell

abbrev mutual
  pub layout : Option (List ℕ) → Tree → List Entry
  layout k null = (k, null_cell) ∷ []
  layout k (truth b) = (k, truth_cell b) ∷ []
  layout k (string s) = (k, string_cell s) ∷ []
  layout k (number v) = (k, number_cell v) ∷ []
  layout k (array ts) = (k, closed false (length (item_list ts)) (below (array ts))) ∷ layout_items ts
  layout k (object ms) = (k, closed true (length (member_list ms)) (below (object ms))) ∷ layout_members ms

  pub layout_items : Items → List Entry
  layout_items no_items = []
  layout_items (item t ts) = layout None t ++ layout_items ts

  pub layout_members : Members → List Entry
  layout_members no_members = []
  layout_members (member k t ms) = layout (Some k) t ++ layout_members ms

-- ---- and back

abbrev pub items_of : List Child → Items
items_of [] = no_items
items_of (k ∷ ks) = item k.1 (items_of ks)

abbrev pub key_or_empty : Option (List ℕ) → List ℕ
key_or_empty None = []
key_or_empty (Some k) = k

abbrev pub members_of : List Child → Members
members_of [] = no_members
members_of (k ∷ ks) = member (key_or_empty k.0) k.1 (members_of ks)

-- an array, or where the flag says so an object
abbrev pub container : Bool → List Child → Tree
container false ks = array (items_of ks)
container true ks = object (members_of ks)

-- The children that stand to the left of an open container, the container's key and kind, and what it
-- holds so far; at the end the children of the innermost.
pub data Spine : Type 0 where
  last : List Child → Spine
  into : List Child → Option (List ℕ) → Bool → Spine → Spine

abbrev pub prepend : List Child → Spine → Spine
prepend ks (last ls) = last (ks ++ ls)
prepend ks (into ls k kind s) = into (ks ++ ls) k kind s

-- the first n children go into a container
abbrev pub gather : Option (List ℕ) → Bool → ℕ → Spine → Spine
gather k kind n (last ls) = last ((k, container kind (take n ls)) ∷ drop n ls)
gather k kind n (into ls l o s) = into ((k, container kind (take n ls)) ∷ drop n ls) l o s

abbrev pub add_cell : Entry → Spine → Spine
add_cell (k, null_cell) s = prepend ((k, null) ∷ []) s
add_cell (k, truth_cell b) s = prepend ((k, truth b) ∷ []) s
add_cell (k, string_cell t) s = prepend ((k, string t) ∷ []) s
add_cell (k, number_cell v) s = prepend ((k, number v) ∷ []) s
add_cell (k, closed kind n size) s = gather k kind n s
add_cell (k, opened kind parent n) s = into [] k kind s

-- the cells, and then the spine s
abbrev pub spine : List Entry → Spine → Spine
spine [] s = s
spine (c ∷ cs) s = add_cell c (spine cs s)

abbrev pub first_tree : List Child → Tree
first_tree [] = null
first_tree (k ∷ ks) = k.1

abbrev pub root_of : Spine → Tree
root_of (last ks) = first_tree ks
root_of (into ks k kind s) = first_tree ks

-- the tree that the cells lay out
abbrev pub tree_of : List Entry → Tree
tree_of cs = root_of (spine cs (last []))
