-- The visits of a tour, each with the position that it is made from. A `Tour` keeps such a position alone.
use Rattle.std.specs.Prelude.{◌≡◌, ℕ, ◌+◌, ◌<◌, List, [], ◌∷◌, ◌++◌, map, get_or, nat_lt, cond, ◌==◌, ◌&&◌, Option, None, Some}
use Rattle.sj_json.specs.Tree.{Tree, null, truth, string, number, array, object, Items, no_items, item, Members, no_members, member, below, items_size, members_size, subtree, node_count}
use Rattle.sj_json.specs.Cells.{null_cell, layout}
use Rattle.sj_json.specs.Links.{ups}
use Rattle.sj_doc.specs.Tours.{Visited, enter, leave, leaf, Touring}
use Rattle.sj_doc.specs.declared.node.Kind.{Kind}
use Rattle.sj_doc.specs.declared.node.Kind.TheVariants as kinds

-- the next node, how many containers are open in the tour, and the innermost of them, 0 where none is open
abbrev pub TourPosition : Type 0
TourPosition = ℕ × ℕ × ℕ

pub data Stop : Type 0 where
  -- at a node, under a key: its number, how many containers are open, the innermost, key and tree
  arrive : ℕ → ℕ → ℕ → Option (List ℕ) → Tree → Stop
  -- from a container: the next node, how many remain open, the container, the one around it, and its kind
  depart : ℕ → ℕ → ℕ → ℕ → Kind → Stop

abbrev mutual
  -- of a tree under the key k, with the number i, where d containers are open and p is the innermost
  pub stops : ℕ → ℕ → Option (List ℕ) → ℕ → Tree → List Stop
  stops d p k i null = arrive i d p k null ∷ []
  stops d p k i (truth b) = arrive i d p k (truth b) ∷ []
  stops d p k i (string s) = arrive i d p k (string s) ∷ []
  stops d p k i (number v) = arrive i d p k (number v) ∷ []
  stops d p k i (array ts) = arrive i d p k (array ts) ∷ (item_stops (d + 1) i (i + 1) ts ++ depart (i + 1 + items_size ts) d i p kinds.Array ∷ [])
  stops d p k i (object ms) = arrive i d p k (object ms) ∷ (member_stops (d + 1) i (i + 1) ms ++ depart (i + 1 + members_size ms) d i p kinds.Object ∷ [])

  pub item_stops : ℕ → ℕ → ℕ → Items → List Stop
  item_stops d p i no_items = []
  item_stops d p i (item t ts) = stops d p None i t ++ item_stops d p (i + 1 + below t) ts

  pub member_stops : ℕ → ℕ → ℕ → Members → List Stop
  member_stops d p i no_members = []
  member_stops d p i (member k t ms) = stops d p (Some k) i t ++ member_stops d p (i + 1 + below t) ms

abbrev pub arrival : Option (List ℕ) → ℕ → Tree → Visited
arrival k i null = leaf (k, i, null)
arrival k i (truth b) = leaf (k, i, truth b)
arrival k i (string s) = leaf (k, i, string s)
arrival k i (number v) = leaf (k, i, number v)
arrival k i (array ts) = enter (k, i, array ts)
arrival k i (object ms) = enter (k, i, object ms)

abbrev pub visit : Stop → Visited
visit (arrive a d p k t) = arrival k a t
visit (depart a d p o kind) = leave kind

abbrev pub begins : Stop → TourPosition
begins (arrive a d p k t) = (a, d, p)
begins (depart a d p o kind) = (a, d + 1, p)

-- the position after an arrival at a tree
abbrev pub beyond : ℕ → ℕ → ℕ → Tree → TourPosition
beyond a d p null = (a + 1, d, p)
beyond a d p (truth b) = (a + 1, d, p)
beyond a d p (string s) = (a + 1, d, p)
beyond a d p (number v) = (a + 1, d, p)
beyond a d p (array ts) = (a + 1, d + 1, a)
beyond a d p (object ms) = (a + 1, d + 1, a)

abbrev pub ends : Stop → TourPosition
ends (arrive a d p k t) = beyond a d p t
ends (depart a d p o kind) = (a, d, o)

-- each stop is made from the position where the one before it ends
abbrev pub Leads : TourPosition → List Stop → TourPosition → Type 0
Leads x [] y = x ≡ y
Leads x (s ∷ ss) y = (begins s ≡ x) × Leads (ends s) ss y

-- the visits from the next node a with d open containers on
abbrev pub visits_from : ℕ → ℕ → List Stop → List Visited
visits_from a d [] = []
visits_from a d (s ∷ ss) = cond (((begins s).0 == a) && ((begins s).1 == d)) (map visit (s ∷ ss)) (visits_from a d ss)

-- how far the node i lies behind its parent
abbrev pub up_of : Tree → ℕ → ℕ
up_of t i = get_or (ups 0 t) i 0

-- the key of the node i
abbrev pub key_in : Tree → ℕ → Option (List ℕ)
key_in t i = (get_or (layout None t) i (None, null_cell)).0

abbrev pub stops_of : Tree → ℕ → List Stop
stops_of t first = stops 0 0 None first (subtree t first)

abbrev pub tour_left : Tree → ℕ → ℕ → ℕ → Touring
tour_left t first at depth = (nat_lt first at, visits_from at depth (stops_of t first))

pub record IsTour (t : Tree) (first : ℕ) (at : ℕ) (inner : ℕ) (depth : ℕ) : Type 0 where
  pub in_range : first < node_count t
  pub before : List Stop
  pub after : List Stop
  pub splits : stops_of t first ≡ before ++ after
  -- the innermost open container, which is `inner` where one is open; where none is, `inner` may be anything
  pub innermost : ℕ
  pub is_inner : 0 < depth → innermost ≡ inner
  pub leads : Leads (at, depth, innermost) after (first + 1 + below (subtree t first), 0, 0)
