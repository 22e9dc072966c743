-- A document while it is being built: what the innermost open container holds so far, and the same of
-- those around it, from the inside out. The last one is the place of the root.
use Rattle.std.specs.Prelude.{ℕ, List, [], ◌∷◌, ◌++◌, length, Bool, true, false, Option, Some, None, ⊤}
use Rattle.sj_json.specs.Tree.{Tree, array, object, Items, no_items, item, Members, no_members, member, Child, item_list, member_list}
use Rattle.sj_json.specs.Cells.{opened, Entry, layout, layout_items, layout_members, items_of, key_or_empty, members_of, Spine, last, into, spine}

pub data Part : Type 0 where
  top : Option Tree → Part
  elements : Items → Part
  -- and the key whose value comes next, if it has been given
  pairs : Members → Option (List ℕ) → Part

abbrev pub State : Type 0
State = Part × List Part

abbrev pub items_push : Items → Tree → Items
items_push no_items t = item t no_items
items_push (item u ts) t = item u (items_push ts t)

abbrev pub members_push : Members → List ℕ → Tree → Members
members_push no_members k t = member k t no_members
members_push (member l u ms) k t = member l u (members_push ms k t)

-- whether a value may come
abbrev pub TakesValue : Part → Type 0
TakesValue (top None) = ⊤
TakesValue (top (Some t)) = ⊥
TakesValue (elements ts) = ⊤
TakesValue (pairs ms None) = ⊥
TakesValue (pairs ms (Some k)) = ⊤

abbrev pub TakesKey : Part → Type 0
TakesKey (top o) = ⊥
TakesKey (elements ts) = ⊥
TakesKey (pairs ms None) = ⊤
TakesKey (pairs ms (Some k)) = ⊥

-- whether the innermost container may be closed
abbrev pub TakesClose : Part → Type 0
TakesClose (top o) = ⊥
TakesClose (elements ts) = ⊤
TakesClose (pairs ms None) = ⊤
TakesClose (pairs ms (Some k)) = ⊥

-- the value t comes
abbrev pub put : Tree → Part → Part
put t (top o) = top (Some t)
put t (elements ts) = elements (items_push ts t)
put t (pairs ms k) = pairs (members_push ms (key_or_empty k) t) None

abbrev pub put_key : List ℕ → Part → Part
put_key k (top o) = top o
put_key k (elements ts) = elements ts
put_key k (pairs ms l) = pairs ms (Some k)

abbrev pub empty : Bool → Part
empty false = elements no_items
empty true = pairs no_members None

abbrev pub tree_of_part : Part → Option Tree
tree_of_part (top o) = o
tree_of_part (elements ts) = Some (array ts)
tree_of_part (pairs ms k) = Some (object ms)

-- ---- calls

abbrev pub with_value : Tree → State → State
with_value t s = (put t s.0, s.1)

abbrev pub with_key : List ℕ → State → State
with_key k s = (put_key k s.0, s.1)

abbrev pub with_open : Bool → State → State
with_open kind s = (empty kind, s.0 ∷ s.1)

abbrev pub put_option : Option Tree → Part → Part
put_option None p = p
put_option (Some t) p = put t p

abbrev pub with_close : State → State
with_close (p, []) = (p, [])
with_close (p, q ∷ qs) = (put_option (tree_of_part p) q, qs)

abbrev pub fresh : State
fresh = (top None, [])

-- nothing is open, and the root has come
abbrev pub IsComplete : State → Type 0
IsComplete (top None, ps) = ⊥
IsComplete (top (Some t), ps) = ⊤
IsComplete (elements ts, ps) = ⊥
IsComplete (pairs ms k, ps) = ⊥

-- ---- as nodes

abbrev pub part_entries : Part → List Entry
part_entries (top None) = []
part_entries (top (Some t)) = layout None t
part_entries (elements ts) = layout_items ts
part_entries (pairs ms k) = layout_members ms

abbrev pub part_kids : Part → List Child
part_kids (top None) = []
part_kids (top (Some t)) = (None, t) ∷ []
part_kids (elements ts) = item_list ts
part_kids (pairs ms k) = member_list ms

abbrev pub part_key : Part → Option (List ℕ)
part_key (top o) = None
part_key (elements ts) = None
part_key (pairs ms k) = k

abbrev pub is_object : Part → Bool
is_object (top o) = false
is_object (elements ts) = false
is_object (pairs ms k) = true

-- the nodes, and the number of the node of the innermost open container
abbrev mutual
  pub laid : Part → List Part → List Entry
  laid p [] = part_entries p
  laid p (q ∷ qs) = laid q qs ++ (part_key q, opened (is_object p) (place q qs) (length (part_kids q))) ∷ part_entries p

  pub place : Part → List Part → ℕ
  place p [] = 0
  place p (q ∷ qs) = length (laid q qs)

-- the root's place is the outermost, and each part has room for the one inside it
abbrev pub IsState : Part → List Part → Type 0
IsState (top o) [] = ⊤
IsState (elements ts) [] = ⊥
IsState (pairs ms k) [] = ⊥
IsState (top o) (q ∷ qs) = ⊥
IsState (elements ts) (q ∷ qs) = TakesValue q × IsState q qs
IsState (pairs ms k) (q ∷ qs) = TakesValue q × IsState q qs

-- ---- and back

abbrev pub first_kid : List Child → Option Tree
first_kid [] = None
first_kid (k ∷ ks) = Some k.1

abbrev pub part_of : Option Bool → List Child → Option (List ℕ) → Part
part_of None ks k = top (first_kid ks)
part_of (Some false) ks k = elements (items_of ks)
part_of (Some true) ks k = pairs (members_of ks) k

-- the innermost part has the key that was given last
abbrev pub unzip : Option Bool → List Part → Option (List ℕ) → Spine → State
unzip kind ps key (last ks) = (part_of kind ks key, ps)
unzip kind ps key (into ks k o s) = unzip (Some o) (part_of kind ks k ∷ ps) key s

abbrev pub state_of : Option (List ℕ) → List Entry → State
state_of key cs = unzip None [] key (spine cs (last []))
