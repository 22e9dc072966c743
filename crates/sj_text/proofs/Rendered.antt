-- The visits of a tree's tour bring its printed text, and its nodes.
use Rattle.std.proofs.Common.{◌≡◌, ℕ, ◌+◌, List, [], ◌∷◌, ◌++◌, Option, Some, None, refl, sym, ap, ◌∙◌, arith, subst, zero-add, append_assoc, append-nil, false}
use Rattle.sj_json.specs.Tree.{Tree, null, truth, string, number, array, object, Items, no_items, item, Members, no_members, member, below, items_size, members_size}
use Rattle.sj_json.specs.Printing.{printed, printed_items, printed_more_items, printed_members, printed_more_members, printed_string}
use Rattle.sj_doc.specs.declared.node.Kind.TheVariants as kinds
use Rattle.sj_doc.specs.Tours.{Visited, enter, leave, leaf, tour, item_tours, member_tours}
use Rattle.sj_text.specs.declared.place.Place.{Place}
use Rattle.sj_text.specs.declared.place.Place.TheVariants.{First, Later}
use Rattle.sj_text.specs.Rendering.{lead, closing, render, AreVisits, nodes, counted}

-- a key with its colon, a value, the members behind it, and what follows
regroup : (key value more rest : List ℕ) → (key ++ 58 ∷ []) ++ (value ++ (more ++ rest)) ≡ (key ++ (58 ∷ value ++ more)) ++ rest
regroup key value more rest =
    append_assoc key (58 ∷ []) (value ++ (more ++ rest)) ∙ ap (λ l. key ++ 58 ∷ l) (sym (append_assoc value more rest)) ∙ sym (append_assoc key (58 ∷ value ++ more) rest)

mutual
  pub render-tour : (place : Place) (k : Option (List ℕ)) (i : ℕ) (t : Tree) (vs : List Visited) → render place (tour k i t ++ vs) ≡ lead place k ++ (printed t ++ render Later vs)
  render-tour place k i null vs = append_assoc (lead place k) (printed null) (render Later vs)
  render-tour place k i (truth b) vs = append_assoc (lead place k) (printed (truth b)) (render Later vs)
  render-tour place k i (string s) vs = append_assoc (lead place k) (printed (string s)) (render Later vs)
  render-tour place k i (number v) vs = append_assoc (lead place k) (printed (number v)) (render Later vs)
  render-tour place k i (array ts) vs =
      append_assoc (lead place k) (91 ∷ []) (render First ((item_tours (i + 1) ts ++ leave kinds.Array ∷ []) ++ vs))
      ∙ ap (λ l. lead place k ++ 91 ∷ l)
      (ap (render First) (append_assoc (item_tours (i + 1) ts) (leave kinds.Array ∷ []) vs) ∙ render-items (i + 1) ts vs ∙ sym (append_assoc (printed_items ts) (93 ∷ []) (render Later vs)))
  render-tour place k i (object ms) vs =
      append_assoc (lead place k) (123 ∷ []) (render First ((member_tours (i + 1) ms ++ leave kinds.Object ∷ []) ++ vs))
      ∙ ap (λ l. lead place k ++ 123 ∷ l)
      (ap (render First) (append_assoc (member_tours (i + 1) ms) (leave kinds.Object ∷ []) vs) ∙ render-members (i + 1) ms vs ∙ sym (append_assoc (printed_members ms) (125 ∷ []) (render Later vs)))

  -- before the end of an array it makes no difference whether a value came
  render-items : (i : ℕ) (ts : Items) (vs : List Visited) → render First (item_tours i ts ++ leave kinds.Array ∷ vs) ≡ printed_items ts ++ (closing kinds.Array ++ render Later vs)
  render-items i no_items vs = refl
  render-items i (item t ts) vs =
      let later : List Visited = item_tours (i + 1 + below t) ts in
      ap (render First) (append_assoc (tour None i t) later (leave kinds.Array ∷ vs))
      ∙ render-tour First None i t (later ++ leave kinds.Array ∷ vs)
      ∙ ap (λ l. printed t ++ l) (render-more_items (i + 1 + below t) ts vs)
      ∙ sym (append_assoc (printed t) (printed_more_items ts) (93 ∷ render Later vs))

  render-more_items : (i : ℕ) (ts : Items) (vs : List Visited) → render Later (item_tours i ts ++ leave kinds.Array ∷ vs) ≡ printed_more_items ts ++ (closing kinds.Array ++ render Later vs)
  render-more_items i no_items vs = refl
  render-more_items i (item t ts) vs =
      let later : List Visited = item_tours (i + 1 + below t) ts in
      ap (render Later) (append_assoc (tour None i t) later (leave kinds.Array ∷ vs))
      ∙ render-tour Later None i t (later ++ leave kinds.Array ∷ vs)
      ∙ ap (λ l. 44 ∷ printed t ++ l) (render-more_items (i + 1 + below t) ts vs)
      ∙ ap (λ l. 44 ∷ l) (sym (append_assoc (printed t) (printed_more_items ts) (93 ∷ render Later vs)))

  render-members : (i : ℕ) (ms : Members) (vs : List Visited) → render First (member_tours i ms ++ leave kinds.Object ∷ vs) ≡ printed_members ms ++ (closing kinds.Object ++ render Later vs)
  render-members i no_members vs = refl
  render-members i (member k t ms) vs =
      let later : List Visited = member_tours (i + 1 + below t) ms in
      ap (render First) (append_assoc (tour (Some k) i t) later (leave kinds.Object ∷ vs))
      ∙ render-tour First (Some k) i t (later ++ leave kinds.Object ∷ vs)
      ∙ ap (λ l. (printed_string k ++ 58 ∷ []) ++ (printed t ++ l)) (render-more_members (i + 1 + below t) ms vs)
      ∙ regroup (printed_string k) (printed t) (printed_more_members ms) (125 ∷ render Later vs)

  render-more_members : (i : ℕ) (ms : Members) (vs : List Visited) → render Later (member_tours i ms ++ leave kinds.Object ∷ vs) ≡ printed_more_members ms ++ (closing kinds.Object ++ render Later vs)
  render-more_members i no_members vs = refl
  render-more_members i (member k t ms) vs =
      let later : List Visited = member_tours (i + 1 + below t) ms in
      ap (render Later) (append_assoc (tour (Some k) i t) later (leave kinds.Object ∷ vs))
      ∙ render-tour Later (Some k) i t (later ++ leave kinds.Object ∷ vs)
      ∙ ap (λ l. 44 ∷ (printed_string k ++ 58 ∷ []) ++ (printed t ++ l)) (render-more_members (i + 1 + below t) ms vs)
      ∙ ap (λ l. 44 ∷ l) (regroup (printed_string k) (printed t) (printed_more_members ms) (125 ∷ render Later vs))

-- the whole tour of a node
pub render_whole : (i : ℕ) (t : Tree) → render First (tour None i t) ≡ printed t
render_whole i t = ap (render First) (sym (append-nil (tour None i t))) ∙ render-tour First None i t [] ∙ append-nil (printed t)

-- ---- its nodes

nodes-append : (vs ws : List Visited) → nodes (vs ++ ws) ≡ nodes vs + nodes ws
nodes-append [] ws = sym (zero-add (nodes ws))
nodes-append (enter n ∷ vs) ws = omega (arith, nodes-append vs ws)
nodes-append (leave k ∷ vs) ws = omega (arith, nodes-append vs ws)
nodes-append (leaf n ∷ vs) ws = omega (arith, nodes-append vs ws)

mutual
  pub nodes-tour : (k : Option (List ℕ)) (i : ℕ) (t : Tree) → nodes (tour k i t) ≡ 1 + below t
  nodes-tour k i null = refl
  nodes-tour k i (truth b) = refl
  nodes-tour k i (string s) = refl
  nodes-tour k i (number v) = refl
  nodes-tour k i (array ts) = omega (arith, nodes-append (item_tours (i + 1) ts) (leave kinds.Array ∷ []), nodes-items (i + 1) ts)
  nodes-tour k i (object ms) = omega (arith, nodes-append (member_tours (i + 1) ms) (leave kinds.Object ∷ []), nodes-members (i + 1) ms)

  nodes-items : (i : ℕ) (ts : Items) → nodes (item_tours i ts) ≡ items_size ts
  nodes-items i no_items = refl
  nodes-items i (item t ts) = omega (arith, nodes-append (tour None i t) (item_tours (i + 1 + below t) ts), nodes-tour None i t, nodes-items (i + 1 + below t) ts)

  nodes-members : (i : ℕ) (ms : Members) → nodes (member_tours i ms) ≡ members_size ms
  nodes-members i no_members = refl
  nodes-members i (member k t ms) = omega (arith, nodes-append (tour (Some k) i t) (member_tours (i + 1 + below t) ms), nodes-tour (Some k) i t, nodes-members (i + 1 + below t) ms)

pub counted-tour : (i : ℕ) (t : Tree) → counted (false, tour None i t) ≡ below t
counted-tour i null = refl
counted-tour i (truth b) = refl
counted-tour i (string s) = refl
counted-tour i (number v) = refl
counted-tour i (array ts) = omega (arith, nodes-tour None i (array ts))
counted-tour i (object ms) = omega (arith, nodes-tour None i (object ms))

-- ---- its leaves

mutual
  AreVisits-before : (k : Option (List ℕ)) (i : ℕ) (t : Tree) (vs : List Visited) → AreVisits vs → AreVisits (tour k i t ++ vs)
  AreVisits-before k i null vs h = (tt, h)
  AreVisits-before k i (truth b) vs h = (tt, h)
  AreVisits-before k i (string s) vs h = (tt, h)
  AreVisits-before k i (number v) vs h = (tt, h)
  AreVisits-before k i (array ts) vs h = (tt, subst AreVisits (sym (append_assoc (item_tours (i + 1) ts) (leave kinds.Array ∷ []) vs)) (AreVisits-items (i + 1) ts (leave kinds.Array ∷ vs) (tt, h)))
  AreVisits-before k i (object ms) vs h = (tt, subst AreVisits (sym (append_assoc (member_tours (i + 1) ms) (leave kinds.Object ∷ []) vs)) (AreVisits-members (i + 1) ms (leave kinds.Object ∷ vs) (tt, h)))

  AreVisits-items : (i : ℕ) (ts : Items) (vs : List Visited) → AreVisits vs → AreVisits (item_tours i ts ++ vs)
  AreVisits-items i no_items vs h = h
  AreVisits-items i (item t ts) vs h =
      subst AreVisits (sym (append_assoc (tour None i t) (item_tours (i + 1 + below t) ts) vs))
      (AreVisits-before None i t (item_tours (i + 1 + below t) ts ++ vs) (AreVisits-items (i + 1 + below t) ts vs h))

  AreVisits-members : (i : ℕ) (ms : Members) (vs : List Visited) → AreVisits vs → AreVisits (member_tours i ms ++ vs)
  AreVisits-members i no_members vs h = h
  AreVisits-members i (member k t ms) vs h =
      subst AreVisits (sym (append_assoc (tour (Some k) i t) (member_tours (i + 1 + below t) ms) vs))
      (AreVisits-before (Some k) i t (member_tours (i + 1 + below t) ms ++ vs) (AreVisits-members (i + 1 + below t) ms vs h))

pub AreVisits-tour : (i : ℕ) (t : Tree) → AreVisits (tour None i t)
AreVisits-tour i t = subst AreVisits (append-nil (tour None i t)) (AreVisits-before None i t [] tt)
