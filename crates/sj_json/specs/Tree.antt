-- A JSON tree. An object keeps its members in their order, and keeps a key that comes twice.
use Rattle.std.specs.Prelude.{ℕ, ◌+◌, max, List, [], ◌∷◌, ◌++◌, get_or, Bool, Option, Some, None, ℤ}

-- A number: exact, as a coefficient and a number of decimals in normal form (`Normal` of `sj_decimal`), or
-- wide, as it is spelled.
pub data Number : Type 0 where
  exact : ℤ × ℕ → Number
  wide : List ℕ → Number

mutual
  pub data Tree : Type 0 where
    null : Tree
    truth : Bool → Tree
    string : List ℕ → Tree
    number : Number → Tree
    array : Items → Tree
    object : Members → Tree

  pub data Items : Type 0 where
    no_items : Items
    item : Tree → Items → Items

  -- a key, its value, and the members after it
  pub data Members : Type 0 where
    no_members : Members
    member : List ℕ → Tree → Members → Members

-- a tree under its key, or under none where it is the root or stands in an array
abbrev pub Child : Type 0
Child = Option (List ℕ) × Tree

abbrev pub item_list : Items → List Child
item_list no_items = []
item_list (item t ts) = (None, t) ∷ item_list ts

abbrev pub member_list : Members → List Child
member_list no_members = []
member_list (member k t ms) = (Some k, t) ∷ member_list ms

-- the trees directly below
abbrev pub children : Tree → List Child
children null = []
children (truth b) = []
children (string s) = []
children (number v) = []
children (array ts) = item_list ts
children (object ms) = member_list ms

abbrev mutual
  -- the nodes of the tree without its root
  pub below : Tree → ℕ
  below null = 0
  below (truth b) = 0
  below (string s) = 0
  below (number v) = 0
  below (array ts) = items_size ts
  below (object ms) = members_size ms

  pub items_size : Items → ℕ
  items_size no_items = 0
  items_size (item t ts) = below t + 1 + items_size ts

  pub members_size : Members → ℕ
  members_size no_members = 0
  members_size (member k t ms) = below t + 1 + members_size ms

abbrev mutual
  -- the greatest number of arrays and objects that are open at one place
  pub depth : Tree → ℕ
  depth null = 0
  depth (truth b) = 0
  depth (string s) = 0
  depth (number v) = 0
  depth (array ts) = items_depth ts + 1
  depth (object ms) = members_depth ms + 1

  pub items_depth : Items → ℕ
  items_depth no_items = 0
  items_depth (item t ts) = max (depth t) (items_depth ts)

  pub members_depth : Members → ℕ
  members_depth no_members = 0
  members_depth (member k t ms) = max (depth t) (members_depth ms)

abbrev mutual
  -- the tree and all trees below it, in preorder
  pub subtrees : Tree → List Tree
  subtrees null = null ∷ []
  subtrees (truth b) = truth b ∷ []
  subtrees (string s) = string s ∷ []
  subtrees (number v) = number v ∷ []
  subtrees (array ts) = array ts ∷ items_subtrees ts
  subtrees (object ms) = object ms ∷ members_subtrees ms

  pub items_subtrees : Items → List Tree
  items_subtrees no_items = []
  items_subtrees (item t ts) = subtrees t ++ items_subtrees ts

  pub members_subtrees : Members → List Tree
  members_subtrees no_members = []
  members_subtrees (member k t ms) = subtrees t ++ members_subtrees ms

-- the node of that number; the root has 0
abbrev pub subtree : Tree → ℕ → Tree
subtree t i = get_or (subtrees t) i null

-- a child: its key, its number in preorder, and its tree
abbrev pub NumberedChild : Type 0
NumberedChild = Option (List ℕ) × ℕ × Tree

-- the children as their keys, numbers and trees, where the first has the number i
abbrev pub numbered : ℕ → List Child → List NumberedChild
numbered i [] = []
numbered i (k ∷ ks) = (k.0, i, k.1) ∷ numbered (i + 1 + below k.1) ks

abbrev pub node_count : Tree → ℕ
node_count t = below t + 1
