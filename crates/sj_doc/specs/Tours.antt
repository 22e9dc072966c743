-- The tour of a tree: all its nodes in order, each container at its start and again at its end.
use Rattle.std.specs.Prelude.{◌≡◌, ℕ, ◌+◌, List, [], ◌∷◌, ◌++◌, Bool, true, false, cond, ◌==◌, Option, Some, None, refl}
use Rattle.std.specs.Coded.{Coded, code_by, coded×, coded_ℕ, coded_list, coded_bool}
use Rattle.sj_json.specs.Tree.{Tree, null, truth, string, number, array, object, Items, no_items, item, Members, no_members, member, below, NumberedChild}
use Rattle.sj_json.specs.Coding.{key_code, tree_code}
use Rattle.sj_doc.specs.declared.node.Kind.{Kind}
use Rattle.sj_doc.specs.declared.node.Kind.TheVariants as kinds

pub data Visited : Type 0 where
  -- an array or an object begins
  enter : NumberedChild → Visited
  -- it ends
  leave : Kind → Visited
  -- a scalar
  leaf : NumberedChild → Visited

abbrev mutual
  -- of a tree under the key k, whose root has the number i
  pub tour : Option (List ℕ) → ℕ → Tree → List Visited
  tour k i null = leaf (k, i, null) ∷ []
  tour k i (truth b) = leaf (k, i, truth b) ∷ []
  tour k i (string s) = leaf (k, i, string s) ∷ []
  tour k i (number v) = leaf (k, i, number v) ∷ []
  tour k i (array ts) = enter (k, i, array ts) ∷ (item_tours (i + 1) ts ++ leave kinds.Array ∷ [])
  tour k i (object ms) = enter (k, i, object ms) ∷ (member_tours (i + 1) ms ++ leave kinds.Object ∷ [])

  pub item_tours : ℕ → Items → List Visited
  item_tours i no_items = []
  item_tours i (item t ts) = tour None i t ++ item_tours (i + 1 + below t) ts

  pub member_tours : ℕ → Members → List Visited
  member_tours i no_members = []
  member_tours i (member k t ms) = tour (Some k) i t ++ member_tours (i + 1 + below t) ms

-- a node is handed out
abbrev pub hands_out : Visited → Bool
hands_out (enter n) = true
hands_out (leave k) = false
hands_out (leaf n) = true

-- ---- how the logic stores it

abbrev pub kind_to : Kind → ℕ
kind_to kinds.Null = 0
kind_to kinds.Truth = 1
kind_to kinds.String = 2
kind_to kinds.Array = 3
kind_to kinds.Object = 4
kind_to kinds.Number = 5

abbrev pub kind_from : ℕ → Kind
kind_from n = cond (n == 0) kinds.Null (cond (n == 1) kinds.Truth (cond (n == 2) kinds.String (cond (n == 3) kinds.Array (cond (n == 4) kinds.Object kinds.Number))))

pub kind_back : (k : Kind) → kind_from (kind_to k) ≡ k
kind_back kinds.Null = refl
kind_back kinds.Truth = refl
kind_back kinds.String = refl
kind_back kinds.Array = refl
kind_back kinds.Object = refl
kind_back kinds.Number = refl

abbrev pub Stored : Type 0
Stored = ℕ × (ℕ × (Option (List ℕ) × (ℕ × Tree)))

abbrev pub visited_to : Visited → Stored
visited_to (enter n) = (0, (0, (n.0, (n.1, n.2))))
visited_to (leave k) = (1, (kind_to k, (None, (0, null))))
visited_to (leaf n) = (2, (0, (n.0, (n.1, n.2))))

abbrev pub visited_from : Stored → Visited
visited_from p =
    let n : NumberedChild = (p.1.1.0, p.1.1.1.0, p.1.1.1.1) in
    cond (p.0 == 0) (enter n) (cond (p.0 == 1) (leave (kind_from p.1.0)) (leaf n))

pub visited_back : (v : Visited) → visited_from (visited_to v) ≡ v
visited_back (enter n) = refl
visited_back (leave kinds.Null) = refl
visited_back (leave kinds.Truth) = refl
visited_back (leave kinds.String) = refl
visited_back (leave kinds.Array) = refl
visited_back (leave kinds.Object) = refl
visited_back (leave kinds.Number) = refl
visited_back (leaf n) = refl

abbrev pub visited_code : Coded Visited
visited_code = code_by Stored (coded× coded_ℕ (coded× coded_ℕ (coded× key_code (coded× coded_ℕ tree_code)))) visited_to visited_from visited_back

-- whether the tour has begun, and the visits that are left
abbrev pub Touring : Type 0
Touring = Bool × List Visited

abbrev pub touring_code : Coded Touring
touring_code = coded× coded_bool (coded_list visited_code)
