-- What stands in the document at each stop of a tour.
use Rattle.std.proofs.Common.{◌≡◌, ◌≢◌, ℕ, ◌+◌, ◌-◌, ◌*◌, ◌<◌, ◌≤◌, ◌⊎◌, List, [], ◌∷◌, ◌++◌, length, map, drop, get_or, Bool, true, false, nat_lt, cond, ◌==◌, Option, Some, None, option_map, IfSome, refl, sym, ap, ◌∙◌, subst, append_assoc, length-append, arith, inl, inr, add-zero}
use Rattle.std.specs.List.{AllByRecursion}
use Rattle.std.proofs.lemmas.Bool.Decides.{eqb_tells}
use Rattle.std.proofs.lemmas.List.{length-drop, drop-drop, drop_at, get_or-drop}
use borrow.Author.Tests.{le-ltb}
use Rattle.sj_json.specs.Tree.{Tree, null, truth, string, number, array, object, Items, no_items, item, Members, no_members, member, Child, below, items_size, members_size, subtree, node_count}
use Rattle.sj_json.specs.Cells.{null_cell, Entry, layout, layout_items, layout_members}
use Rattle.sj_json.specs.Links.{ups, item_ups, member_ups}
use Rattle.sj_json.proofs.Places.{length-layout, length-subtrees, lies_at}
use Rattle.sj_doc.specs.declared.node.Kind.{Kind}
use Rattle.sj_doc.specs.declared.node.Kind.TheVariants as kinds
use Rattle.sj_doc.specs.Kinds.{kind_of, IsContainer}
use Rattle.sj_doc.specs.Tours.{Visited, enter, leave, leaf, tour}
use Rattle.sj_doc.specs.Stops.{TourPosition, Stop, arrive, depart, stops, item_stops, member_stops, arrival, visit, begins, beyond, ends, Leads, visits_from, up_of, stops_of, tour_left, IsTour, key_in}
use Rattle.sj_doc.proofs.Docs.{layout-cons}
use Rattle.sj_doc.proofs.Listing.{same_laid}
use Rattle.sj_doc.proofs.ParentLinks.{length-ups, ups_at}
use Rattle.sj_doc.proofs.Stops.{visits_all, leads_all, between_all, ordered_all, from_here, from_end, all_append, last_of, Between, Ordered}

-- the layout of u begins at i
abbrev pub Lies : Tree → ℕ → Option (List ℕ) → Tree → Type 0
Lies t i k u = (rest : List Entry) × (drop i (layout None t) ≡ layout k u ++ rest)

-- the links of u begin at i, and the first of them leads to p where a container is open
abbrev pub LinksLie : Tree → ℕ → ℕ → ℕ → Tree → Type 0
LinksLie t d i p u = (n : ℕ) × (rest : List ℕ) × (drop i (ups 0 t) ≡ ups n u ++ rest) × (0 < d → i - n ≡ p)

-- the node p is a container that reaches past a
abbrev pub Inside : Tree → ℕ → ℕ → Type 0
Inside t p a = (k : Option (List ℕ)) × (u : Tree) × Lies t p k u × (a < p + 1 + below u) × IsContainer u

abbrev pub Good : Tree → ℕ → Stop → Type 0
Good t first (arrive a d p k v) =
    (l : Option (List ℕ)) × Lies t a l v × (0 < d → k ≡ l) × (d ≡ 0 → (k ≡ None) × (a ≡ first)) × (0 < d → Inside t p a)
Good t first (depart a d p o kind) =
    (l : Option (List ℕ)) × (u : Tree) × Lies t p l u × (kind ≡ kind_of u) × (a ≡ p + 1 + below u) × (0 < d → p - up_of t p ≡ o) × IsContainer u

ups-first : (n : ℕ) (u : Tree) (rest : List ℕ) → get_or (ups n u ++ rest) 0 0 ≡ n
ups-first n null rest = refl
ups-first n (truth b) rest = refl
ups-first n (string s) rest = refl
ups-first n (number v) rest = refl
ups-first n (array ts) rest = refl
ups-first n (object ms) rest = refl

-- the list that begins one place later, or behind its front
drop_one : {X : Type 0} (xs ys : List X) (x : X) (i : ℕ) → drop i xs ≡ x ∷ ys → drop (i + 1) xs ≡ ys
drop_one xs ys x i e = sym (drop-drop 1 i xs) ∙ ap (drop 1) e

drop_front : {X : Type 0} (xs front ys : List X) (i n : ℕ) → drop i xs ≡ front ++ ys → length front ≡ n → drop (i + n) xs ≡ ys
drop_front xs front ys i n e l = sym (drop-drop n i xs) ∙ ap (drop n) e ∙ drop_at front ys n l

module _ (t : Tree) (i : ℕ) (k : Option (List ℕ)) (u : Tree) (lies : Lies t i k u) where
  pub lies_within : i < node_count t
  lies_within = omega (arith, ap length lies.1, length-append (layout k u) lies.0, length-layout k u, length-drop i (layout None t), length-layout None t)

  pub lies_reach : i + 1 + below u ≤ node_count t
  lies_reach = omega (arith, ap length lies.1, length-append (layout k u) lies.0, length-layout k u, length-drop i (layout None t), length-layout None t)

  pub lies_tree : subtree t i ≡ u
  lies_tree =
      let at = lies_at None t i (omega (arith, length-subtrees t, lies_within)) in
      ap (λ (x : Child). x.1) (same_laid at.0 k (subtree t i) u at.1 lies.0 (sym at.2 ∙ lies.1))

  pub lies_key : key_in t i ≡ k
  lies_key =
      let none : Entry = (None, null_cell) in
      ap (λ (j : ℕ). (get_or (layout None t) j none).0) (sym (add-zero i)) ∙ ap (λ (e : Entry). e.0) (sym (get_or-drop i (layout None t) 0 none))
      ∙ ap (λ (x : List Entry). (get_or x 0 none).0) (lies.1 ∙ ap (λ (x : List Entry). x ++ lies.0) (layout-cons k u))

-- the nodes below a node end before those of the document
pub reach : (t : Tree) (i : ℕ) → i < node_count t → i + 1 + below (subtree t i) ≤ node_count t
reach t i h = let at = lies_at None t i (omega (arith, length-subtrees t)) in lies_reach t i at.0 (subtree t i) (at.1, at.2)

-- the key of a node, as it was read
pub key_read : (t : Tree) (i : ℕ) → i < node_count t → (k : Option (List ℕ)) → (rest : List Entry) → drop i (layout None t) ≡ layout k (subtree t i) ++ rest → key_in t i ≡ k
key_read t i h k rest e = lies_key t i k (subtree t i) (rest, e)

module _ (t : Tree) (first : ℕ) where
  link_is : (i n : ℕ) (u : Tree) (rest : List ℕ) → drop i (ups 0 t) ≡ ups n u ++ rest → up_of t i ≡ n
  link_is i n u rest e = ap (λ (j : ℕ). get_or (ups 0 t) j 0) (sym (add-zero i)) ∙ sym (get_or-drop i (ups 0 t) 0 0) ∙ ap (λ (x : List ℕ). get_or x 0 0) e ∙ ups-first n u rest

  up_is : (i p n : ℕ) (u : Tree) (rest : List ℕ) → drop i (ups 0 t) ≡ ups n u ++ rest → i - n ≡ p → i - up_of t i ≡ p
  up_is i p n u rest e far =
      ap (λ (x : ℕ). i - x) (link_is i n u rest e) ∙ far

  mutual
    good_tree : (d p : ℕ) (k : Option (List ℕ)) (i : ℕ) (u : Tree) → (l : Option (List ℕ)) → Lies t i l u → LinksLie t d i p u → (0 < d → k ≡ l) → (d ≡ 0 → (k ≡ None) × (i ≡ first)) → (0 < d → Inside t p i)
        → AllByRecursion (Good t first) (stops d p k i u)
    good_tree d p k i null l lies links same top inside = ((l, lies, same, top, inside), tt)
    good_tree d p k i (truth b) l lies links same top inside = ((l, lies, same, top, inside), tt)
    good_tree d p k i (string s) l lies links same top inside = ((l, lies, same, top, inside), tt)
    good_tree d p k i (number v) l lies links same top inside = ((l, lies, same, top, inside), tt)
    good_tree d p k i (array ts) l lies links same top inside =
        let e = i + 1 + items_size ts in
        let far : i + 1 - 1 ≡ i = omega arith in (
          (l, lies, same, top, inside),
          all_append (Good t first) (item_stops (d + 1) i (i + 1) ts) (depart e d i p kinds.Array ∷ [])
              (good_items d i (i + 1) ts l (array ts) lies tt (lies.0, drop_one (layout None t) (layout_items ts ++ lies.0) _ i lies.1) 1 (links.1, drop_one (ups 0 t) (item_ups 1 ts ++ links.1) links.0 i links.2) far (omega arith) (omega arith))
              ((l, array ts, lies, refl, refl, λ some. up_is i p links.0 (array ts) links.1 links.2 (links.3 some), tt), tt),
        )
    good_tree d p k i (object ms) l lies links same top inside =
        let e = i + 1 + members_size ms in
        let far : i + 1 - 1 ≡ i = omega arith in (
          (l, lies, same, top, inside),
          all_append (Good t first) (member_stops (d + 1) i (i + 1) ms) (depart e d i p kinds.Object ∷ [])
              (good_members d i (i + 1) ms l (object ms) lies tt (lies.0, drop_one (layout None t) (layout_members ms ++ lies.0) _ i lies.1) 1 (links.1, drop_one (ups 0 t) (member_ups 1 ms ++ links.1) links.0 i links.2) far (omega arith) (omega arith))
              ((l, object ms, lies, refl, refl, λ some. up_is i p links.0 (object ms) links.1 links.2 (links.3 some), tt), tt),
        )

    -- the children from j on of the container u with the number p
    good_items : (d p j : ℕ) (ts : Items) (l : Option (List ℕ)) (u : Tree) → Lies t p l u → IsContainer u → (rest : List Entry) × (drop j (layout None t) ≡ layout_items ts ++ rest)
        → (m : ℕ) → (rest : List ℕ) × (drop j (ups 0 t) ≡ item_ups m ts ++ rest) → j - m ≡ p → m ≤ j → j + items_size ts ≤ p + 1 + below u
        → AllByRecursion (Good t first) (item_stops (d + 1) p j ts)
    good_items d p j no_items l u lies holds cells m links far less within = tt
    good_items d p j (item v ts) l u lies holds cells m links far less within =
        let n = j + 1 + below v in
        let step : j + (below v + 1) ≡ n = omega arith in
        let here = cells.1 ∙ append_assoc (layout None v) (layout_items ts) cells.0 in
        let here_links = links.1 ∙ append_assoc (ups m v) (item_ups (m + 1 + below v) ts) links.0 in
        let next : drop n (layout None t) ≡ layout_items ts ++ cells.0 = ap (λ (x : ℕ). drop x (layout None t)) (sym step) ∙ drop_front (layout None t) (layout None v) (layout_items ts ++ cells.0) j (below v + 1) here (length-layout None v) in
        let next_links : drop n (ups 0 t) ≡ item_ups (m + 1 + below v) ts ++ links.0 = ap (λ (x : ℕ). drop x (ups 0 t)) (sym step) ∙ drop_front (ups 0 t) (ups m v) (item_ups (m + 1 + below v) ts ++ links.0) j (below v + 1) here_links (length-ups m v) in
        all_append (Good t first) (stops (d + 1) p None j v) (item_stops (d + 1) p n ts)
        (good_tree (d + 1) p None j v None (layout_items ts ++ cells.0, here) (m, item_ups (m + 1 + below v) ts ++ links.0, here_links, λ _. far) (λ _. refl) (λ no. absurd (omega arith)) (λ _. (l, u, lies, omega (arith, within), holds)))
        (good_items d p n ts l u lies holds (cells.0, next) (m + 1 + below v) (links.0, next_links) (omega (arith, far, less)) (omega (arith, less)) (omega (arith, within)))

    good_members : (d p j : ℕ) (ms : Members) (l : Option (List ℕ)) (u : Tree) → Lies t p l u → IsContainer u → (rest : List Entry) × (drop j (layout None t) ≡ layout_members ms ++ rest)
        → (m : ℕ) → (rest : List ℕ) × (drop j (ups 0 t) ≡ member_ups m ms ++ rest) → j - m ≡ p → m ≤ j → j + members_size ms ≤ p + 1 + below u
        → AllByRecursion (Good t first) (member_stops (d + 1) p j ms)
    good_members d p j no_members l u lies holds cells m links far less within = tt
    good_members d p j (member k v ms) l u lies holds cells m links far less within =
        let n = j + 1 + below v in
        let step : j + (below v + 1) ≡ n = omega arith in
        let here = cells.1 ∙ append_assoc (layout (Some k) v) (layout_members ms) cells.0 in
        let here_links = links.1 ∙ append_assoc (ups m v) (member_ups (m + 1 + below v) ms) links.0 in
        let next : drop n (layout None t) ≡ layout_members ms ++ cells.0 = ap (λ (x : ℕ). drop x (layout None t)) (sym step) ∙ drop_front (layout None t) (layout (Some k) v) (layout_members ms ++ cells.0) j (below v + 1) here (length-layout (Some k) v) in
        let next_links : drop n (ups 0 t) ≡ member_ups (m + 1 + below v) ms ++ links.0 = ap (λ (x : ℕ). drop x (ups 0 t)) (sym step) ∙ drop_front (ups 0 t) (ups m v) (member_ups (m + 1 + below v) ms ++ links.0) j (below v + 1) here_links (length-ups m v) in
        all_append (Good t first) (stops (d + 1) p (Some k) j v) (member_stops (d + 1) p n ms)
        (good_tree (d + 1) p (Some k) j v (Some k) (layout_members ms ++ cells.0, here) (m, member_ups (m + 1 + below v) ms ++ links.0, here_links, λ _. far) (λ _. refl) (λ no. absurd (omega arith)) (λ _. (l, u, lies, omega (arith, within), holds)))
        (good_members d p n ms l u lies holds (cells.0, next) (m + 1 + below v) (links.0, next_links) (omega (arith, far, less)) (omega (arith, less)) (omega (arith, within)))

  pub all_good : first < node_count t → AllByRecursion (Good t first) (stops_of t first)
  all_good h =
      let at = lies_at None t first (omega (arith, length-subtrees t)) in
      let links = ups_at 0 t first (omega (arith, length-subtrees t)) in
      good_tree 0 0 None first (subtree t first) at.0 (at.1, at.2) (links.0, links.1, links.2, λ no. absurd (omega arith))
      (λ no. absurd (omega arith)) (λ _. (refl, refl)) (λ no. absurd (omega arith))

-- ---- the next stop

abbrev final : Tree → ℕ → TourPosition
final t first = (first + 1 + below (subtree t first), 0, 0)

-- where a container is open: its nodes end before those of the document
pub record Open (t : Tree) (inner : ℕ) : Type 0 where
  pub within : inner < node_count t
  pub reach : inner + 1 + below (subtree t inner) ≤ node_count t
  pub container : IsContainer (subtree t inner)

open_at : (t : Tree) (p inner : ℕ) (k : Option (List ℕ)) (u : Tree) → Lies t p k u → IsContainer u → p ≡ inner → Open t inner
open_at t p inner k u lies holds e = record {
  within = subst (λ (i : ℕ). i < node_count t) e (lies_within t p k u lies);
  reach = subst (λ (i : ℕ). i + 1 + below (subtree t i) ≤ node_count t) e (omega (arith, lies_reach t p k u lies, ap below (lies_tree t p k u lies)));
  container = subst (λ (i : ℕ). IsContainer (subtree t i)) e (subst IsContainer (sym (lies_tree t p k u lies)) holds);
}

-- where a container ends
pub record Leaving (t : Tree) (first : ℕ) (at : ℕ) (inner : ℕ) (depth : ℕ) : Type 0 where
  pub begun : first < at
  pub left : visits_from at depth (stops_of t first) ≡ leave (kind_of (subtree t inner)) ∷ visits_from at (depth - 1) (stops_of t first)
  pub after : IsTour t first at (inner - up_of t inner) (depth - 1)

abbrev pub position_after : Tree → ℕ → ℕ → ℕ → TourPosition
position_after t at inner depth = beyond at depth inner (subtree t at)

-- where a node is handed out
pub record Arriving (t : Tree) (first : ℕ) (at : ℕ) (inner : ℕ) (depth : ℕ) (key : Option (List ℕ)) : Type 0 where
  pub within : at < node_count t
  pub begun : first ≤ at
  pub small : depth ≤ 2 * at
  pub left : visits_from at depth (stops_of t first) ≡ arrival key at (subtree t at) ∷ visits_from (position_after t at inner depth).0 (position_after t at inner depth).1 (stops_of t first)
  pub after : IsTour t first (position_after t at inner depth).0 (position_after t at inner depth).2 (position_after t at inner depth).1

abbrev pub shown_key : Tree → ℕ → ℕ → Option (List ℕ)
shown_key t at depth = cond (depth == 0) None (key_in t at)

-- where no container is open, it does not matter which was said to be the innermost
beyond_alike : (a d p q : ℕ) (u : Tree) → (0 < d → p ≡ q) → (i : ℕ) × (beyond a d p u ≡ ((beyond a d q u).0, (beyond a d q u).1, i)) × (0 < (beyond a d q u).1 → i ≡ (beyond a d q u).2)
beyond_alike a d p q null same = (p, refl, same)
beyond_alike a d p q (truth b) same = (p, refl, same)
beyond_alike a d p q (string s) same = (p, refl, same)
beyond_alike a d p q (number v) same = (p, refl, same)
beyond_alike a d p q (array ts) same = (a, refl, λ _. refl)
beyond_alike a d p q (object ms) same = (a, refl, λ _. refl)

key_shown : (hidden : Bool) (key : Option (List ℕ)) (k : List ℕ) → Some k ≡ cond hidden None key → key ≡ Some k
key_shown true key k e = absurd (cc e)
key_shown false key k e = sym e

-- a key that is shown is the key
pub shows_its_key : {X : Type 0} (now : X → List ℕ) (hidden : Bool) (key : Option (List ℕ)) (shown : Option X) → option_map now shown ≡ cond hidden None key → IfSome shown (λ s. key ≡ Some (now s))
shows_its_key now hidden key None e = tt
shows_its_key now hidden key (Some s) e = key_shown hidden key (now s) e

module _ (t : Tree) (first : ℕ) (in_range : first < node_count t) where
  -- the view, from the stops that are left
  left_is : (at depth inner : ℕ) (before after : List Stop) → stops_of t first ≡ before ++ after → Leads (at, depth, inner) after (final t first) → visits_from at depth (stops_of t first) ≡ map visit after
  left_is at depth inner before [] splits leads =
      ap (λ (p : TourPosition). visits_from p.0 p.1 (stops_of t first)) leads ∙ from_end first (first + 1 + below (subtree t first)) 0 (stops_of t first) (between_all 0 0 None first (subtree t first))
  left_is at depth inner before (s ∷ ss) splits leads =
      ap (λ (p : TourPosition). visits_from p.0 p.1 (stops_of t first)) (sym leads.0) ∙ ap (visits_from (begins s).0 (begins s).1) splits
      ∙ from_here before ss s (subst Ordered splits (ordered_all 0 0 None first (subtree t first)))

  good_here : (before after : List Stop) (s : Stop) → stops_of t first ≡ before ++ s ∷ after → Good t first s
  good_here before after s splits = last_of (Good t first) before after s (subst (AllByRecursion (Good t first)) splits (all_good t first in_range))

  -- the tour after the stop s
  moves : (at depth innermost inner : ℕ) (before after : List Stop) (s : Stop) → stops_of t first ≡ before ++ s ∷ after → Leads (ends s) after (final t first) → ends s ≡ (at, depth, innermost) → (0 < depth → innermost ≡ inner) → IsTour t first at inner depth
  moves at depth innermost inner before after s splits leads e same = record {
    in_range = in_range;
    before = before ++ s ∷ [];
    after = after;
    splits = splits ∙ sym (append_assoc before (s ∷ []) after);
    innermost = innermost;
    is_inner = same;
    leads = subst (λ (p : TourPosition). Leads p after (final t first)) e leads;
  }

  -- what follows the stop s
  follows : (at depth inner to_at to_depth to_inner : ℕ) (before after : List Stop) (s : Stop) → stops_of t first ≡ before ++ s ∷ after → Leads (at, depth, inner) (s ∷ after) (final t first) → ends s ≡ (to_at, to_depth, to_inner)
      → visits_from at depth (stops_of t first) ≡ visit s ∷ visits_from to_at to_depth (stops_of t first)
  follows at depth inner to_at to_depth to_inner before after s splits leads e =
      left_is at depth inner before (s ∷ after) splits leads
      ∙ ap (λ (x : List Visited). visit s ∷ x) (sym (left_is to_at to_depth to_inner (before ++ s ∷ []) after (splits ∙ sym (append_assoc before (s ∷ []) after)) (subst (λ (p : TourPosition). Leads p after (final t first)) e leads.1)))

  between_here : (before after : List Stop) (s : Stop) → stops_of t first ≡ before ++ s ∷ after → Between first (first + 1 + below (subtree t first)) 0 s
  between_here before after s splits =
      last_of (Between first (first + 1 + below (subtree t first)) 0) before after s (subst (AllByRecursion (Between first (first + 1 + below (subtree t first)) 0)) splits (between_all 0 0 None first (subtree t first)))

  done_of : (at depth inner : ℕ) (before after : List Stop) → stops_of t first ≡ before ++ after → Leads (at, depth, inner) after (final t first) → depth ≡ 0 → at ≢ first → visits_from at depth (stops_of t first) ≡ []
  done_of at depth inner before [] splits leads e n = left_is at depth inner before [] splits leads
  done_of at depth inner before (arrive a d p k v ∷ ss) splits leads e n =
      let g = good_here before ss (arrive a d p k v) splits in
      let at_is : a ≡ at = ap (λ (x : TourPosition). x.0) leads.0 in
      let depth_is : d ≡ depth = ap (λ (x : TourPosition). x.1) leads.0 in
      absurd (n (sym at_is ∙ (g.3 (depth_is ∙ e)).1))
  done_of at depth inner before (depart a d p o kind ∷ ss) splits leads e n =
      let depth_is : d + 1 ≡ depth = ap (λ (x : TourPosition). x.1) leads.0 in
      absurd (omega (arith, depth_is, e))

  open_of : (at depth inner : ℕ) (before after : List Stop) → stops_of t first ≡ before ++ after → Leads (at, depth, inner) after (final t first) → 0 < depth → Open t inner
  open_of at depth inner before [] splits leads h = let depth_is : depth ≡ 0 = ap (λ (x : TourPosition). x.1) leads in absurd (omega (arith, depth_is))
  open_of at depth inner before (arrive a d p k v ∷ ss) splits leads h =
      let g = good_here before ss (arrive a d p k v) splits in
      let depth_is : d ≡ depth = ap (λ (x : TourPosition). x.1) leads.0 in
      let in_node = g.4 (omega (arith, depth_is)) in
      open_at t p inner in_node.0 in_node.1 in_node.2 in_node.4 (ap (λ (x : TourPosition). x.2) leads.0)
  open_of at depth inner before (depart a d p o kind ∷ ss) splits leads h =
      let g = good_here before ss (depart a d p o kind) splits in
      open_at t p inner g.0 g.1 g.2 g.6 (ap (λ (x : TourPosition). x.2) leads.0)

  leaves_of : (at depth inner : ℕ) (before after : List Stop) → stops_of t first ≡ before ++ after → Leads (at, depth, inner) after (final t first) → 0 < depth → at ≡ inner + 1 + below (subtree t inner) → Leaving t first at inner depth
  leaves_of at depth inner before [] splits leads h e = let depth_is : depth ≡ 0 = ap (λ (x : TourPosition). x.1) leads in absurd (omega (arith, depth_is))
  leaves_of at depth inner before (arrive a d p k v ∷ ss) splits leads h e =
      let g = good_here before ss (arrive a d p k v) splits in
      let at_is : a ≡ at = ap (λ (x : TourPosition). x.0) leads.0 in
      let depth_is : d ≡ depth = ap (λ (x : TourPosition). x.1) leads.0 in
      let inner_is : p ≡ inner = ap (λ (x : TourPosition). x.2) leads.0 in
      let in_node = g.4 (omega (arith, depth_is)) in
      let size : below (subtree t inner) ≡ below in_node.1 = ap (λ (i : ℕ). below (subtree t i)) (sym inner_is) ∙ ap below (lies_tree t p in_node.0 in_node.1 in_node.2) in
      absurd (omega (arith, in_node.3, size, at_is, inner_is, e))
  leaves_of at depth inner before (depart a d p o kind ∷ ss) splits leads h e =
      let s = depart a d p o kind in
      let g = good_here before ss s splits in
      let at_is : a ≡ at = ap (λ (x : TourPosition). x.0) leads.0 in
      let depth_is : d + 1 ≡ depth = ap (λ (x : TourPosition). x.1) leads.0 in
      let inner_is : p ≡ inner = ap (λ (x : TourPosition). x.2) leads.0 in
      let fewer : d ≡ depth - 1 = omega (arith, depth_is) in
      let outer_is : 0 < depth - 1 → o ≡ inner - up_of t inner = λ some. sym (g.5 (omega (arith, some, fewer))) ∙ ap (λ (i : ℕ). i - up_of t i) inner_is in
      let to : ends s ≡ (at, depth - 1, o) = ap (λ (x : ℕ). (x, d, o)) at_is ∙ ap (λ (x : ℕ). (at, x, o)) fewer in
      let kind_is : kind ≡ kind_of (subtree t inner) = g.3 ∙ ap kind_of (sym (lies_tree t p g.0 g.1 g.2)) ∙ ap (λ (i : ℕ). kind_of (subtree t i)) inner_is in
      record {
        begun = omega (arith, (between_here before ss s splits).0, at_is);
        left = follows at depth inner at (depth - 1) o before ss s splits leads to ∙ ap (λ (x : Kind). leave x ∷ visits_from at (depth - 1) (stops_of t first)) kind_is;
        after = moves at (depth - 1) o (inner - up_of t inner) before ss s splits leads.1 to outer_is;
      }

  arrives_of : (at depth innermost inner : ℕ) (before after : List Stop) → stops_of t first ≡ before ++ after → Leads (at, depth, innermost) after (final t first) → (0 < depth → innermost ≡ inner) → (depth ≡ 0 → at ≡ first) → (0 < depth → at ≢ inner + 1 + below (subtree t inner))
      → Arriving t first at inner depth (shown_key t at depth)
  arrives_of at depth innermost inner before [] splits leads same top not_end =
      let at_is : at ≡ first + 1 + below (subtree t first) = ap (λ (x : TourPosition). x.0) leads in
      let depth_is : depth ≡ 0 = ap (λ (x : TourPosition). x.1) leads in
      absurd (omega (arith, at_is, top depth_is))
  arrives_of at depth innermost inner before (depart a d p o kind ∷ ss) splits leads same top not_end =
      let g = good_here before ss (depart a d p o kind) splits in
      let at_is : a ≡ at = ap (λ (x : TourPosition). x.0) leads.0 in
      let depth_is : d + 1 ≡ depth = ap (λ (x : TourPosition). x.1) leads.0 in
      let inner_is : p ≡ inner = ap (λ (x : TourPosition). x.2) leads.0 ∙ same (omega (arith, depth_is)) in
      let size : below (subtree t inner) ≡ below g.1 = ap (λ (i : ℕ). below (subtree t i)) (sym inner_is) ∙ ap below (lies_tree t p g.0 g.1 g.2) in
      absurd (not_end (omega (arith, depth_is)) (omega (arith, g.4, size, at_is, inner_is)))
  arrives_of at depth innermost inner before (arrive a d p k v ∷ ss) splits leads same top not_end =
      let s = arrive a d p k v in
      let g = good_here before ss s splits in
      let at_is : a ≡ at = ap (λ (x : TourPosition). x.0) leads.0 in
      let depth_is : d ≡ depth = ap (λ (x : TourPosition). x.1) leads.0 in
      let inner_is : p ≡ innermost = ap (λ (x : TourPosition). x.2) leads.0 in
      let tree_is : v ≡ subtree t at = sym (lies_tree t a g.0 v g.1) ∙ ap (subtree t) at_is in
      let key_is : k ≡ shown_key t at depth =
      elim (eqb_tells depth 0) as (λ _. k ≡ shown_key t at depth) [
        | inl z ↦ (g.3 (depth_is ∙ z.1)).0 ∙ ap (λ (x : Bool). cond x None (key_in t at)) (sym z.0)
        | inr z ↦ g.2 (omega (arith, depth_is, z.1)) ∙ sym (lies_key t a g.0 v g.1) ∙ ap (key_in t) at_is ∙ ap (λ (x : Bool). cond x None (key_in t at)) (sym z.0)
      ] in
      let x = position_after t at inner depth in
      let z = beyond_alike at depth innermost inner (subtree t at) same in
      let to : ends s ≡ (x.0, x.1, z.0) =
      ap (λ (x : ℕ). beyond x d p v) at_is ∙ ap (λ (x : ℕ). beyond at x p v) depth_is ∙ ap (λ (x : ℕ). beyond at depth x v) inner_is ∙ ap (λ (x : Tree). beyond at depth innermost x) tree_is ∙ z.1 in
      record {
        within = subst (λ (i : ℕ). i < node_count t) at_is (lies_within t a g.0 v g.1);
        begun = omega (arith, (between_here before ss s splits).0, at_is);
        small = omega (arith, (between_here before ss s splits).0, at_is, depth_is);
        left = follows at depth innermost x.0 x.1 z.0 before ss s splits leads to
            ∙ ap (λ (l : Option (List ℕ)). arrival l a v ∷ visits_from x.0 x.1 (stops_of t first)) key_is ∙ ap (λ (i : ℕ). arrival (shown_key t at depth) i v ∷ visits_from x.0 x.1 (stops_of t first)) at_is
            ∙ ap (λ (u : Tree). arrival (shown_key t at depth) at u ∷ visits_from x.0 x.1 (stops_of t first)) tree_is;
        after = moves x.0 x.1 z.0 x.2 before ss s splits leads.1 to z.2;
      }

module _ (t : Tree) (first at inner depth : ℕ) (b : IsTour t first at inner depth) where
  pub over : depth ≡ 0 → at ≢ first → visits_from at depth (stops_of t first) ≡ []
  over = done_of t first b.in_range at depth b.innermost b.before b.after b.splits b.leads

  leads_inner : 0 < depth → Leads (at, depth, inner) b.after (final t first)
  leads_inner h = subst (λ (i : ℕ). Leads (at, depth, i) b.after (final t first)) (b.is_inner h) b.leads

  pub is_open : 0 < depth → Open t inner
  is_open h = open_of t first b.in_range at depth inner b.before b.after b.splits (leads_inner h) h

  pub leaves : 0 < depth → at ≡ inner + 1 + below (subtree t inner) → Leaving t first at inner depth
  leaves h = leaves_of t first b.in_range at depth inner b.before b.after b.splits (leads_inner h) h

  pub arrives : (depth ≡ 0 → at ≡ first) → (0 < depth → at ≢ inner + 1 + below (subtree t inner)) → Arriving t first at inner depth (shown_key t at depth)
  arrives = arrives_of t first b.in_range at depth b.innermost inner b.before b.after b.splits b.leads b.is_inner

-- the tour begins
pub sets_out : (t : Tree) (i : ℕ) → i < node_count t → IsTour t i i i 0 × (tour_left t i i 0 ≡ (false, tour None i (subtree t i)))
sets_out t i h =
    let leads = leads_all 0 0 None i (subtree t i) in (
      record { in_range = h; before = []; after = stops_of t i; splits = refl; innermost = 0; is_inner = λ no. absurd (omega arith); leads = leads },
      ap (λ (x : List Visited). (nat_lt i i, x)) (left_is t i h i 0 0 [] (stops_of t i) refl leads ∙ visits_all 0 0 None i (subtree t i)) ∙ ap (λ (x : Bool). (x, tour None i (subtree t i))) (le-ltb i i (omega arith)),
    )

-- ---- containers and scalars, told apart by their kinds

pub container_arrival : (l : Option (List ℕ)) (i : ℕ) (u : Tree) (k : Kind) → k ≡ kind_of u → (k ≡ kinds.Array) ⊎ (k ≡ kinds.Object) → arrival l i u ≡ enter (l, i, u)
container_arrival l i null k e (inl h) = cc
container_arrival l i null k e (inr h) = cc
container_arrival l i (truth b) k e (inl h) = cc
container_arrival l i (truth b) k e (inr h) = cc
container_arrival l i (string s) k e (inl h) = cc
container_arrival l i (number v) k e (inl h) = cc
container_arrival l i (string s) k e (inr h) = cc
container_arrival l i (number v) k e (inr h) = cc
container_arrival l i (array ts) k e h = refl
container_arrival l i (object ms) k e h = refl

pub container_beyond : (a d p : ℕ) (u : Tree) (k : Kind) → k ≡ kind_of u → (k ≡ kinds.Array) ⊎ (k ≡ kinds.Object) → beyond a d p u ≡ (a + 1, d + 1, a)
container_beyond a d p null k e (inl h) = cc
container_beyond a d p null k e (inr h) = cc
container_beyond a d p (truth b) k e (inl h) = cc
container_beyond a d p (truth b) k e (inr h) = cc
container_beyond a d p (string s) k e (inl h) = cc
container_beyond a d p (number v) k e (inl h) = cc
container_beyond a d p (string s) k e (inr h) = cc
container_beyond a d p (number v) k e (inr h) = cc
container_beyond a d p (array ts) k e h = refl
container_beyond a d p (object ms) k e h = refl

pub scalar_arrival : (l : Option (List ℕ)) (i : ℕ) (u : Tree) (k : Kind) → k ≡ kind_of u → k ≢ kinds.Array → k ≢ kinds.Object → arrival l i u ≡ leaf (l, i, u)
scalar_arrival l i null k e h g = refl
scalar_arrival l i (truth b) k e h g = refl
scalar_arrival l i (string s) k e h g = refl
scalar_arrival l i (number v) k e h g = refl
scalar_arrival l i (array ts) k e h g = absurd (h e)
scalar_arrival l i (object ms) k e h g = absurd (g e)

pub scalar_beyond : (a d p : ℕ) (u : Tree) (k : Kind) → k ≡ kind_of u → k ≢ kinds.Array → k ≢ kinds.Object → beyond a d p u ≡ (a + 1, d, p)
scalar_beyond a d p null k e h g = refl
scalar_beyond a d p (truth b) k e h g = refl
scalar_beyond a d p (string s) k e h g = refl
scalar_beyond a d p (number v) k e h g = refl
scalar_beyond a d p (array ts) k e h g = absurd (h e)
scalar_beyond a d p (object ms) k e h g = absurd (g e)
