-- How far each node, in preorder, lies behind its parent. The root lies behind none.
use Rattle.std.specs.Prelude.{ℕ, ◌+◌, ◌-◌, List, [], ◌∷◌, ◌++◌, length, Some, None}
use Rattle.sj_json.specs.Tree.{Tree, null, truth, string, number, array, object, Items, no_items, item, Members, no_members, member, below}
use Rattle.sj_json.specs.Building.{Part, top, elements, pairs, laid, place}

abbrev mutual
  -- of a tree whose root lies n behind its parent
  pub ups : ℕ → Tree → List ℕ
  ups n null = n ∷ []
  ups n (truth b) = n ∷ []
  ups n (string s) = n ∷ []
  ups n (number v) = n ∷ []
  ups n (array ts) = n ∷ item_ups 1 ts
  ups n (object ms) = n ∷ member_ups 1 ms

  -- of elements, the first of which lies n behind the array
  pub item_ups : ℕ → Items → List ℕ
  item_ups n no_items = []
  item_ups n (item t ts) = ups n t ++ item_ups (n + 1 + below t) ts

  pub member_ups : ℕ → Members → List ℕ
  member_ups n no_members = []
  member_ups n (member k t ms) = ups n t ++ member_ups (n + 1 + below t) ms

-- of what an open container holds so far
abbrev pub part_ups : Part → List ℕ
part_ups (top None) = []
part_ups (top (Some t)) = ups 0 t
part_ups (elements ts) = item_ups 1 ts
part_ups (pairs ms k) = member_ups 1 ms

-- of a document that is being built
abbrev pub laid_ups : Part → List Part → List ℕ
laid_ups p [] = part_ups p
laid_ups p (q ∷ qs) = laid_ups q qs ++ (length (laid q qs) - place q qs) ∷ part_ups p
