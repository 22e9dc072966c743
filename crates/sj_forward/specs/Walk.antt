-- The walk down a JSON tree with one place for each node: what a forward path has in it, in the order of the text. sj_forward_laws says
-- the same by whole lists, accessor by accessor, and that it is the meaning of the path.
use Rattle.std.specs.Prelude.{ℕ, suc, nat_le, ◌&&◌, Bool, List, [], ◌∷◌, ◌++◌, if◌then◌else◌}
use Rattle.std.specs.Str.{bytes_eq}
use Rattle.sj_json.specs.Tree.{Tree, null, truth, string, number, array, object, Items, no_items, item, Members, no_members, member}
use Rattle.sj_forward.specs.Forward.{Accessor, Key, EachMember, EachElement, Span}

-- The place of a node in the path: which accessors are still to be applied to it.
pub data Place : Type 0 where
  -- it is not reached, or it lies in an item of the path
  nowhere : Place
  -- it is reached; with no accessor left it is an item of the path
  at : (left : List Accessor) → Place
  -- it is an element of an array that was unwrapped for an accessor of members, the first of these, and is itself not unwrapped
  unwrapped : (left : List Accessor) → Place

-- the elements from one index to another, both included
abbrev pub has_index : ℕ → ℕ → ℕ → Bool
has_index from to i = nat_le from i && nat_le i to

-- ---- a scalar or an object, which an accessor of elements takes as an array of itself alone

abbrev pub settled_at : List Accessor → Place
settled_at [] = at []
settled_at (Key key ∷ left) = at (Key key ∷ left)
settled_at (EachMember ∷ left) = at (EachMember ∷ left)
settled_at (EachElement ∷ left) = settled_at left
settled_at (Span from to ∷ left) = if has_index from to 0 then settled_at left else nowhere

-- its place behind the accessors of elements that have it itself
abbrev pub settled : Place → Place
settled nowhere = nowhere
settled (at left) = settled_at left
settled (unwrapped left) = unwrapped left

-- ---- the place of a child by that of its parent

-- the element at the index i; an array is unwrapped once for an accessor of members
abbrev pub element_at : List Accessor → ℕ → Place
element_at [] i = nowhere
element_at (Key key ∷ left) i = unwrapped (Key key ∷ left)
element_at (EachMember ∷ left) i = unwrapped (EachMember ∷ left)
element_at (EachElement ∷ left) i = at left
element_at (Span from to ∷ left) i = if has_index from to i then at left else nowhere

abbrev pub element_place : Place → ℕ → Place
element_place nowhere i = nowhere
element_place (at left) i = element_at left i
element_place (unwrapped left) i = nowhere

-- the value of a member under the key k
abbrev pub value_place : List Accessor → List ℕ → Place
value_place [] k = nowhere
value_place (Key key ∷ left) k = if bytes_eq k key then at left else nowhere
value_place (EachMember ∷ left) k = at left
value_place (EachElement ∷ left) k = nowhere
value_place (Span from to ∷ left) k = nowhere

-- by the place of the object, which is settled
abbrev pub member_place : Place → List ℕ → Place
member_place nowhere k = nowhere
member_place (at left) k = value_place left k
member_place (unwrapped left) k = value_place left k

-- ---- the walk

-- a node itself, if it is an item
abbrev pub given : Place → Tree → List Tree
given nowhere t = []
given (at []) t = t ∷ []
given (at (a ∷ left)) t = []
given (unwrapped left) t = []

-- the items in a tree that has this place, the tree itself among them, in the order of the text
abbrev mutual
  pub walk : Place → Tree → List Tree
  walk p null = given (settled p) null
  walk p (truth b) = given (settled p) (truth b)
  walk p (string s) = given (settled p) (string s)
  walk p (number v) = given (settled p) (number v)
  walk p (array ts) = given p (array ts) ++ walk_items p 0 ts
  walk p (object ms) = given (settled p) (object ms) ++ walk_members (settled p) ms

  -- those in the elements of an array that has this place, from the index i on
  pub walk_items : Place → ℕ → Items → List Tree
  walk_items p i no_items = []
  walk_items p i (item t ts) = walk (element_place p i) t ++ walk_items p (suc i) ts

  -- and in the values of the members of an object that has this place, settled
  pub walk_members : Place → Members → List Tree
  walk_members p no_members = []
  walk_members p (member k t ms) = walk (member_place p k) t ++ walk_members p ms
