-- A walk with one place for each node has what the accessors reach.
use Rattle.std.proofs.Common.{◌≡◌, ℕ, suc, Bool, true, false, List, [], ◌∷◌, ◌++◌, refl, sym, ap, ap₂, ◌∙◌, if◌then◌else◌}
use Rattle.std.specs.List.{flat_map}
use Rattle.std.specs.Str.{bytes_eq}
use Rattle.std.proofs.lemmas.Grind.{flat_map-append}
use Rattle.std.proofs.lemmas.List.{append-nil}
use Rattle.sj_json.specs.Tree.{Tree, null, truth, string, number, array, object, Items, no_items, item, Members, no_members, member, Child, item_list, member_list}
use Rattle.sj_forward.specs.Forward.{Accessor, Key, EachMember, EachElement, Span}
use Rattle.sj_forward.specs.Walk.{Place, nowhere, at, unwrapped, has_index, settled_at, given, walk, walk_items, walk_members}
use Rattle.sj_forward_laws.specs.Reached.{values, values_under, spanned, members_of, elements_of, all_reached}

-- ---- where nothing is reached

mutual
  nowhere_none : (t : Tree) → walk nowhere t ≡ []
  nowhere_none null = refl
  nowhere_none (truth b) = refl
  nowhere_none (string s) = refl
  nowhere_none (number v) = refl
  nowhere_none (array ts) = no_element 0 ts
  nowhere_none (object ms) = no_member ms

  no_element : (i : ℕ) (ts : Items) → walk_items nowhere i ts ≡ []
  no_element i no_items = refl
  no_element i (item t ts) = ap₂ (λ us vs. us ++ vs) (nowhere_none t) (no_element (suc i) ts)

  no_member : (ms : Members) → walk_members nowhere ms ≡ []
  no_member no_members = refl
  no_member (member k t ms) = ap₂ (λ us vs. us ++ vs) (nowhere_none t) (no_member ms)

-- in an item
items_in_item : (i : ℕ) (ts : Items) → walk_items (at []) i ts ≡ []
items_in_item i no_items = refl
items_in_item i (item t ts) = ap₂ (λ us vs. us ++ vs) (nowhere_none t) (items_in_item (suc i) ts)

members_in_item : (ms : Members) → walk_members (at []) ms ≡ []
members_in_item no_members = refl
members_in_item (member k t ms) = ap₂ (λ us vs. us ++ vs) (nowhere_none t) (members_in_item ms)

-- in an array that is an element of an array that was unwrapped
unwrapped_once : (left : List Accessor) (i : ℕ) (ts : Items) → walk_items (unwrapped left) i ts ≡ []
unwrapped_once left i no_items = refl
unwrapped_once left i (item t ts) = ap₂ (λ us vs. us ++ vs) (nowhere_none t) (unwrapped_once left (suc i) ts)

-- ---- a tree that is no array

itself : (b : Bool) (left : List Accessor) (t : Tree) (f : Place → List Tree) → f nowhere ≡ [] → f (settled_at left) ≡ all_reached left t
    → f (if b then settled_at left else nowhere) ≡ flat_map (all_reached left) (if b then t ∷ [] else [])
itself true left t f none is = is ∙ sym (append-nil (all_reached left t))
itself false left t f none is = none

-- a scalar is an array of itself alone, and has no members
abbrev IsScalar : Tree → Type 0
IsScalar t = (elements_of t ≡ t ∷ []) × (members_of t ≡ [])

scalar_is : (left : List Accessor) (t : Tree) → IsScalar t → given (settled_at left) t ≡ all_reached left t
scalar_is [] t s = refl
scalar_is (Key key ∷ left) t s =
    ap (λ (cs : List Child). flat_map (all_reached left) (values_under key cs ++ [])) (sym s.1)
    ∙ ap (λ (us : List Tree). flat_map (all_reached left) (flat_map (λ u. values_under key (members_of u)) us)) (sym s.0)
scalar_is (EachMember ∷ left) t s =
    ap (λ (cs : List Child). flat_map (all_reached left) (values cs ++ [])) (sym s.1)
    ∙ ap (λ (us : List Tree). flat_map (all_reached left) (flat_map (λ u. values (members_of u)) us)) (sym s.0)
scalar_is (EachElement ∷ left) t s = scalar_is left t s ∙ sym (append-nil (all_reached left t)) ∙ ap (flat_map (all_reached left)) (sym s.0)
scalar_is (Span from to ∷ left) t s =
    itself (has_index from to 0) left t (λ p. given p t) refl (scalar_is left t s)
    ∙ ap (λ (us : List Tree). flat_map (all_reached left) (spanned from to 0 us)) (sym s.0)

object_is : (left : List Accessor) (ms : Members) → ((key : List ℕ) (l : List Accessor) → walk_members (at (Key key ∷ l)) ms ≡ flat_map (all_reached l) (values_under key (member_list ms)))
    → ((l : List Accessor) → walk_members (at (EachMember ∷ l)) ms ≡ flat_map (all_reached l) (values (member_list ms)))
    → given (settled_at left) (object ms) ++ walk_members (settled_at left) ms ≡ all_reached left (object ms)
object_is [] ms keyed all = ap (λ us. object ms ∷ us) (members_in_item ms)
object_is (Key key ∷ left) ms keyed all = keyed key left ∙ ap (flat_map (all_reached left)) (sym (append-nil (values_under key (member_list ms))))
object_is (EachMember ∷ left) ms keyed all = all left ∙ ap (flat_map (all_reached left)) (sym (append-nil (values (member_list ms))))
object_is (EachElement ∷ left) ms keyed all = object_is left ms keyed all ∙ sym (append-nil (all_reached left (object ms)))
object_is (Span from to ∷ left) ms keyed all =
    itself (has_index from to 0) left (object ms) (λ p. given p (object ms) ++ walk_members p ms) (no_member ms) (object_is left ms keyed all)

-- ---- the walk

-- a child that an accessor reaches, or does not
if_reached : (b : Bool) (left : List Accessor) (t : Tree) (ts us : List Tree) → walk (at left) t ≡ all_reached left t → us ≡ flat_map (all_reached left) ts
    → walk (if b then at left else nowhere) t ++ us ≡ flat_map (all_reached left) (if b then t ∷ ts else ts)
if_reached true left t ts us is more = ap₂ (λ vs ws. vs ++ ws) is more
if_reached false left t ts us is more = ap (λ vs. vs ++ us) (nowhere_none t) ∙ more

mutual
  walked_all : (left : List Accessor) (t : Tree) → walk (at left) t ≡ all_reached left t
  walked_all left null = scalar_is left null (refl, refl)
  walked_all left (truth b) = scalar_is left (truth b) (refl, refl)
  walked_all left (string s) = scalar_is left (string s) (refl, refl)
  walked_all left (number v) = scalar_is left (number v) (refl, refl)
  walked_all [] (array ts) = ap (λ us. array ts ∷ us) (items_in_item 0 ts)
  walked_all (Key key ∷ left) (array ts) = keyed_in_elements key left 0 ts
  walked_all (EachMember ∷ left) (array ts) = members_in_elements left 0 ts
  walked_all (EachElement ∷ left) (array ts) = each_element left 0 ts
  walked_all (Span from to ∷ left) (array ts) = spanned_elements from to left 0 ts
  walked_all left (object ms) = object_is left ms (λ key l. keyed_members key l ms) (λ l. each_member l ms)

  keyed_members : (key : List ℕ) (left : List Accessor) (ms : Members) → walk_members (at (Key key ∷ left)) ms ≡ flat_map (all_reached left) (values_under key (member_list ms))
  keyed_members key left no_members = refl
  keyed_members key left (member k t ms) = if_reached (bytes_eq k key) left t (values_under key (member_list ms)) _ (walked_all left t) (keyed_members key left ms)

  each_member : (left : List Accessor) (ms : Members) → walk_members (at (EachMember ∷ left)) ms ≡ flat_map (all_reached left) (values (member_list ms))
  each_member left no_members = refl
  each_member left (member k t ms) = ap₂ (λ us vs. us ++ vs) (walked_all left t) (each_member left ms)

  each_element : (left : List Accessor) (i : ℕ) (ts : Items) → walk_items (at (EachElement ∷ left)) i ts ≡ flat_map (all_reached left) (values (item_list ts))
  each_element left i no_items = refl
  each_element left i (item t ts) = ap₂ (λ us vs. us ++ vs) (walked_all left t) (each_element left (suc i) ts)

  spanned_elements : (from to : ℕ) (left : List Accessor) (i : ℕ) (ts : Items)
      → walk_items (at (Span from to ∷ left)) i ts ≡ flat_map (all_reached left) (spanned from to i (values (item_list ts)))
  spanned_elements from to left i no_items = refl
  spanned_elements from to left i (item t ts) =
      if_reached (has_index from to i) left t (spanned from to (suc i) (values (item_list ts))) _ (walked_all left t) (spanned_elements from to left (suc i) ts)

  -- members of the elements of an array
  keyed_in_elements : (key : List ℕ) (left : List Accessor) (i : ℕ) (ts : Items)
      → walk_items (at (Key key ∷ left)) i ts ≡ flat_map (all_reached left) (flat_map (λ u. values_under key (members_of u)) (values (item_list ts)))
  keyed_in_elements key left i no_items = refl
  keyed_in_elements key left i (item t ts) =
      ap₂ (λ us vs. us ++ vs) (keyed_in_element key left t) (keyed_in_elements key left (suc i) ts)
      ∙ sym (flat_map-append (all_reached left) (values_under key (members_of t)) (flat_map (λ u. values_under key (members_of u)) (values (item_list ts))))

  keyed_in_element : (key : List ℕ) (left : List Accessor) (t : Tree) → walk (unwrapped (Key key ∷ left)) t ≡ flat_map (all_reached left) (values_under key (members_of t))
  keyed_in_element key left null = refl
  keyed_in_element key left (truth b) = refl
  keyed_in_element key left (string s) = refl
  keyed_in_element key left (number v) = refl
  keyed_in_element key left (array ts) = unwrapped_once (Key key ∷ left) 0 ts
  keyed_in_element key left (object ms) = keyed_once key left ms

  keyed_once : (key : List ℕ) (left : List Accessor) (ms : Members) → walk_members (unwrapped (Key key ∷ left)) ms ≡ flat_map (all_reached left) (values_under key (member_list ms))
  keyed_once key left no_members = refl
  keyed_once key left (member k t ms) = if_reached (bytes_eq k key) left t (values_under key (member_list ms)) _ (walked_all left t) (keyed_once key left ms)

  members_in_elements : (left : List Accessor) (i : ℕ) (ts : Items)
      → walk_items (at (EachMember ∷ left)) i ts ≡ flat_map (all_reached left) (flat_map (λ u. values (members_of u)) (values (item_list ts)))
  members_in_elements left i no_items = refl
  members_in_elements left i (item t ts) =
      ap₂ (λ us vs. us ++ vs) (members_in_element left t) (members_in_elements left (suc i) ts)
      ∙ sym (flat_map-append (all_reached left) (values (members_of t)) (flat_map (λ u. values (members_of u)) (values (item_list ts))))

  members_in_element : (left : List Accessor) (t : Tree) → walk (unwrapped (EachMember ∷ left)) t ≡ flat_map (all_reached left) (values (members_of t))
  members_in_element left null = refl
  members_in_element left (truth b) = refl
  members_in_element left (string s) = refl
  members_in_element left (number v) = refl
  members_in_element left (array ts) = unwrapped_once (EachMember ∷ left) 0 ts
  members_in_element left (object ms) = members_once left ms

  members_once : (left : List Accessor) (ms : Members) → walk_members (unwrapped (EachMember ∷ left)) ms ≡ flat_map (all_reached left) (values (member_list ms))
  members_once left no_members = refl
  members_once left (member k t ms) = ap₂ (λ us vs. us ++ vs) (walked_all left t) (members_once left ms)

pub walked : (left : List Accessor) (t : Tree) → walk (at left) t ≡ all_reached left t
walked = walked_all
