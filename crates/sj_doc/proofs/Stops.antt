-- The stops of a tour: the visits they make, where they lead, and their order.
use Rattle.std.proofs.Common.{◌≡◌, ℕ, ◌+◌, ◌*◌, ◌<◌, ◌≤◌, List, [], ◌∷◌, ◌++◌, map, Bool, true, false, cond, ◌==◌, ◌&&◌, Option, Some, None, refl, sym, ap, ◌∙◌, subst, arith, inl, inr}
use Rattle.std.specs.List.{AllByRecursion}
use Rattle.std.proofs.lemmas.List.{map-append}
use Rattle.std.proofs.lemmas.Bool.Decides.{eqb_tells}
use Rattle.sj_json.specs.Tree.{Tree, null, truth, string, number, array, object, Items, no_items, item, Members, no_members, member, below, items_size, members_size}
use Rattle.sj_doc.specs.declared.node.Kind.TheVariants as kinds
use Rattle.sj_doc.specs.Tours.{Visited, enter, leave, tour, item_tours, member_tours}
use Rattle.sj_doc.specs.Stops.{TourPosition, Stop, arrive, depart, stops, item_stops, member_stops, visit, begins, ends, Leads, visits_from}

-- ---- the visits

mutual
  pub visits_all : (d p : ℕ) (k : Option (List ℕ)) (i : ℕ) (t : Tree) → map visit (stops d p k i t) ≡ tour k i t
  visits_all d p k i null = refl
  visits_all d p k i (truth b) = refl
  visits_all d p k i (string s) = refl
  visits_all d p k i (number v) = refl
  visits_all d p k i (array ts) =
      let last = depart (i + 1 + items_size ts) d i p kinds.Array in
      ap (λ (x : List Visited). enter (k, i, array ts) ∷ x) (map-append visit (item_stops (d + 1) i (i + 1) ts) (last ∷ []) ∙ ap (λ (x : List Visited). x ++ leave kinds.Array ∷ []) (visits_items (d + 1) i (i + 1) ts))
  visits_all d p k i (object ms) =
      let last = depart (i + 1 + members_size ms) d i p kinds.Object in
      ap (λ (x : List Visited). enter (k, i, object ms) ∷ x) (map-append visit (member_stops (d + 1) i (i + 1) ms) (last ∷ []) ∙ ap (λ (x : List Visited). x ++ leave kinds.Object ∷ []) (visits_members (d + 1) i (i + 1) ms))

  visits_items : (d p i : ℕ) (ts : Items) → map visit (item_stops d p i ts) ≡ item_tours i ts
  visits_items d p i no_items = refl
  visits_items d p i (item t ts) =
      map-append visit (stops d p None i t) (item_stops d p (i + 1 + below t) ts) ∙ ap (λ (x : List Visited). x ++ map visit (item_stops d p (i + 1 + below t) ts)) (visits_all d p None i t)
      ∙ ap (λ (x : List Visited). tour None i t ++ x) (visits_items d p (i + 1 + below t) ts)

  visits_members : (d p i : ℕ) (ms : Members) → map visit (member_stops d p i ms) ≡ member_tours i ms
  visits_members d p i no_members = refl
  visits_members d p i (member k t ms) =
      map-append visit (stops d p (Some k) i t) (member_stops d p (i + 1 + below t) ms) ∙ ap (λ (x : List Visited). x ++ map visit (member_stops d p (i + 1 + below t) ms)) (visits_all d p (Some k) i t)
      ∙ ap (λ (x : List Visited). tour (Some k) i t ++ x) (visits_members d p (i + 1 + below t) ms)

-- ---- where they lead

leads-append : (x y z : TourPosition) (xs ys : List Stop) → Leads x xs y → Leads y ys z → Leads x (xs ++ ys) z
leads-append x y z [] ys h g = subst (λ (w : TourPosition). Leads w ys z) (sym h) g
leads-append x y z (s ∷ xs) ys h g = (h.0, leads-append (ends s) y z xs ys h.1 g)

moved : (a b d p : ℕ) (z : TourPosition) (ss : List Stop) → a ≡ b → Leads (a, d, p) ss z → Leads (b, d, p) ss z
moved a b d p z ss e h = subst (λ (x : ℕ). Leads (x, d, p) ss z) e h

ended : (a b d p : ℕ) (x : TourPosition) (ss : List Stop) → a ≡ b → Leads x ss (a, d, p) → Leads x ss (b, d, p)
ended a b d p x ss e h = subst (λ (y : ℕ). Leads x ss (y, d, p)) e h

mutual
  pub leads_all : (d p : ℕ) (k : Option (List ℕ)) (i : ℕ) (t : Tree) → Leads (i, d, p) (stops d p k i t) (i + 1 + below t, d, p)
  leads_all d p k i null = (refl, ap (λ (x : ℕ). (x, d, p)) (omega arith))
  leads_all d p k i (truth b) = (refl, ap (λ (x : ℕ). (x, d, p)) (omega arith))
  leads_all d p k i (string s) = (refl, ap (λ (x : ℕ). (x, d, p)) (omega arith))
  leads_all d p k i (number v) = (refl, ap (λ (x : ℕ). (x, d, p)) (omega arith))
  leads_all d p k i (array ts) =
      let e = i + 1 + items_size ts in
      (refl, leads-append (i + 1, d + 1, i) (e, d + 1, i) (e, d, p) (item_stops (d + 1) i (i + 1) ts) (depart e d i p kinds.Array ∷ []) (leads_items (d + 1) i (i + 1) ts) (refl, refl))
  leads_all d p k i (object ms) =
      let e = i + 1 + members_size ms in
      (refl, leads-append (i + 1, d + 1, i) (e, d + 1, i) (e, d, p) (member_stops (d + 1) i (i + 1) ms) (depart e d i p kinds.Object ∷ []) (leads_members (d + 1) i (i + 1) ms) (refl, refl))

  leads_items : (d p i : ℕ) (ts : Items) → Leads (i, d, p) (item_stops d p i ts) (i + items_size ts, d, p)
  leads_items d p i no_items = ap (λ (x : ℕ). (x, d, p)) (omega arith)
  leads_items d p i (item t ts) =
      let j = i + 1 + below t in
      let same : j + items_size ts ≡ i + (below t + 1 + items_size ts) = omega arith in
      ended (j + items_size ts) (i + (below t + 1 + items_size ts)) d p (i, d, p) (stops d p None i t ++ item_stops d p j ts) same
      (leads-append (i, d, p) (j, d, p) (j + items_size ts, d, p) (stops d p None i t) (item_stops d p j ts) (leads_all d p None i t) (leads_items d p j ts))

  leads_members : (d p i : ℕ) (ms : Members) → Leads (i, d, p) (member_stops d p i ms) (i + members_size ms, d, p)
  leads_members d p i no_members = ap (λ (x : ℕ). (x, d, p)) (omega arith)
  leads_members d p i (member k t ms) =
      let j = i + 1 + below t in
      let same : j + members_size ms ≡ i + (below t + 1 + members_size ms) = omega arith in
      ended (j + members_size ms) (i + (below t + 1 + members_size ms)) d p (i, d, p) (stops d p (Some k) i t ++ member_stops d p j ms) same
      (leads-append (i, d, p) (j, d, p) (j + members_size ms, d, p) (stops d p (Some k) i t) (member_stops d p j ms) (leads_all d p (Some k) i t) (leads_members d p j ms))

-- ---- their order: twice the next node less the open containers grows at each stop

-- at the node lo or later, before hi, where d containers were open before
abbrev pub Between : ℕ → ℕ → ℕ → Stop → Type 0
Between lo hi d s = (2 * lo + (begins s).1 ≤ 2 * (begins s).0 + d) × (2 * (begins s).0 + d < 2 * hi + (begins s).1)

abbrev pub Precedes : Stop → Stop → Type 0
Precedes s u = 2 * (begins s).0 + (begins u).1 < 2 * (begins u).0 + (begins s).1

abbrev pub Ordered : List Stop → Type 0
Ordered [] = Unit {0}
Ordered (s ∷ ss) = AllByRecursion (Precedes s) ss × Ordered ss

pub all_append : {X : Type 0} (P : X → Type 0) (xs ys : List X) → AllByRecursion P xs → AllByRecursion P ys → AllByRecursion P (xs ++ ys)
all_append P [] ys h g = g
all_append P (x ∷ xs) ys h g = (h.0, all_append P xs ys h.1 g)

all_weaker : {X : Type 0} (P Q : X → Type 0) (xs : List X) → ((x : X) → P x → Q x) → AllByRecursion P xs → AllByRecursion Q xs
all_weaker P Q [] f h = tt
all_weaker P Q (x ∷ xs) f h = (f x h.0, all_weaker P Q xs f h.1)

ordered-append : (lo mid hi d : ℕ) (xs ys : List Stop) → Ordered xs → Ordered ys → AllByRecursion (Between lo mid d) xs → AllByRecursion (Between mid hi d) ys → Ordered (xs ++ ys)
ordered-append lo mid hi d [] ys h g b c = g
ordered-append lo mid hi d (x ∷ xs) ys h g b c = (
  all_append (Precedes x) xs ys h.0 (all_weaker (Between mid hi d) (Precedes x) ys (λ y w. omega (arith, b.0, w)) c),
  ordered-append lo mid hi d xs ys h.1 g b.1 c,
)

mutual
  pub between_all : (d p : ℕ) (k : Option (List ℕ)) (i : ℕ) (t : Tree) → AllByRecursion (Between i (i + 1 + below t) d) (stops d p k i t)
  between_all d p k i null = ((omega arith, omega arith), tt)
  between_all d p k i (truth b) = ((omega arith, omega arith), tt)
  between_all d p k i (string s) = ((omega arith, omega arith), tt)
  between_all d p k i (number v) = ((omega arith, omega arith), tt)
  between_all d p k i (array ts) =
      let e = i + 1 + items_size ts in
      let P = Between i e d in
      ((omega arith, omega arith), all_append P (item_stops (d + 1) i (i + 1) ts) (depart e d i p kinds.Array ∷ []) (all_weaker (Between (i + 1) (i + 1 + items_size ts) (d + 1)) P (item_stops (d + 1) i (i + 1) ts) (λ s w. (omega (arith, w), omega (arith, w))) (between_items (d + 1) i (i + 1) ts)) ((omega arith, omega arith), tt))
  between_all d p k i (object ms) =
      let e = i + 1 + members_size ms in
      let P = Between i e d in
      ((omega arith, omega arith), all_append P (member_stops (d + 1) i (i + 1) ms) (depart e d i p kinds.Object ∷ []) (all_weaker (Between (i + 1) (i + 1 + members_size ms) (d + 1)) P (member_stops (d + 1) i (i + 1) ms) (λ s w. (omega (arith, w), omega (arith, w))) (between_members (d + 1) i (i + 1) ms)) ((omega arith, omega arith), tt))

  between_items : (d p i : ℕ) (ts : Items) → AllByRecursion (Between i (i + items_size ts) d) (item_stops d p i ts)
  between_items d p i no_items = tt
  between_items d p i (item t ts) =
      let j = i + 1 + below t in
      let P = Between i (i + (below t + 1 + items_size ts)) d in
      all_append P (stops d p None i t) (item_stops d p j ts) (all_weaker (Between i j d) P (stops d p None i t) (λ s w. (omega (arith, w), omega (arith, w))) (between_all d p None i t))
      (all_weaker (Between j (j + items_size ts) d) P (item_stops d p j ts) (λ s w. (omega (arith, w), omega (arith, w))) (between_items d p j ts))

  between_members : (d p i : ℕ) (ms : Members) → AllByRecursion (Between i (i + members_size ms) d) (member_stops d p i ms)
  between_members d p i no_members = tt
  between_members d p i (member k t ms) =
      let j = i + 1 + below t in
      let P = Between i (i + (below t + 1 + members_size ms)) d in
      all_append P (stops d p (Some k) i t) (member_stops d p j ms) (all_weaker (Between i j d) P (stops d p (Some k) i t) (λ s w. (omega (arith, w), omega (arith, w))) (between_all d p (Some k) i t))
      (all_weaker (Between j (j + members_size ms) d) P (member_stops d p j ms) (λ s w. (omega (arith, w), omega (arith, w))) (between_members d p j ms))

-- the first and the last stop of a container, around those in between
around : (d i hi : ℕ) (first last : Stop) (ss : List Stop) → (begins first).0 ≡ i → (begins first).1 ≡ d → (begins last).0 ≡ hi → (begins last).1 ≡ d + 1 → i < hi
    → AllByRecursion (Between (i + 1) hi (d + 1)) ss → Ordered ss → Ordered (first ∷ (ss ++ last ∷ []))
around d i hi first last ss a b x y less all o = (
  all_append (Precedes first) ss (last ∷ []) (all_weaker (Between (i + 1) hi (d + 1)) (Precedes first) ss (λ s w. omega (arith, w, a, b)) all) (omega (arith, a, b, x, y), tt),
  ordered-append (i + 1) hi (hi + 1) (d + 1) ss (last ∷ []) o (tt, tt) all ((omega (arith, x, y), omega (arith, x, y)), tt),
)

mutual
  pub ordered_all : (d p : ℕ) (k : Option (List ℕ)) (i : ℕ) (t : Tree) → Ordered (stops d p k i t)
  ordered_all d p k i null = (tt, tt)
  ordered_all d p k i (truth b) = (tt, tt)
  ordered_all d p k i (string s) = (tt, tt)
  ordered_all d p k i (number v) = (tt, tt)
  ordered_all d p k i (array ts) =
      let e = i + 1 + items_size ts in
      around d i e (arrive i d p k (array ts)) (depart e d i p kinds.Array) (item_stops (d + 1) i (i + 1) ts) refl refl refl refl (omega arith) (between_items (d + 1) i (i + 1) ts) (ordered_items (d + 1) i (i + 1) ts)
  ordered_all d p k i (object ms) =
      let e = i + 1 + members_size ms in
      around d i e (arrive i d p k (object ms)) (depart e d i p kinds.Object) (member_stops (d + 1) i (i + 1) ms) refl refl refl refl (omega arith) (between_members (d + 1) i (i + 1) ms) (ordered_members (d + 1) i (i + 1) ms)

  ordered_items : (d p i : ℕ) (ts : Items) → Ordered (item_stops d p i ts)
  ordered_items d p i no_items = tt
  ordered_items d p i (item t ts) =
      let j = i + 1 + below t in
      ordered-append i j (j + items_size ts) d (stops d p None i t) (item_stops d p j ts) (ordered_all d p None i t) (ordered_items d p j ts) (between_all d p None i t) (between_items d p j ts)

  ordered_members : (d p i : ℕ) (ms : Members) → Ordered (member_stops d p i ms)
  ordered_members d p i no_members = tt
  ordered_members d p i (member k t ms) =
      let j = i + 1 + below t in
      ordered-append i j (j + members_size ms) d (stops d p (Some k) i t) (member_stops d p j ms) (ordered_all d p (Some k) i t) (ordered_members d p j ms) (between_all d p (Some k) i t) (between_members d p j ms)

-- ---- a position is that of one stop alone

other_place : (a b d e : ℕ) → (a ≡ b → d ≡ e → ⊥) → ((a == b) && (d == e)) ≡ false
other_place a b d e h =
    elim (eqb_tells a b) as (λ _. ((a == b) && (d == e)) ≡ false) [
      | inl p ↦ elim (eqb_tells d e) as (λ _. ((a == b) && (d == e)) ≡ false) [
        | inl q ↦ absurd (h p.1 q.1)
        | inr q ↦ ap (λ (x : Bool). (a == b) && x) q.0 ∙ ap (λ (x : Bool). x && false) p.0
      ]
      | inr p ↦ ap (λ (x : Bool). x && (d == e)) p.0
    ]

same_place : (a d : ℕ) → ((a == a) && (d == d)) ≡ true
same_place a d =
    elim (eqb_tells a a) as (λ _. ((a == a) && (d == d)) ≡ true) [
      | inl p ↦ elim (eqb_tells d d) as (λ _. ((a == a) && (d == d)) ≡ true) [
        | inl q ↦ ap (λ (x : Bool). (a == a) && x) q.0 ∙ ap (λ (x : Bool). x && true) p.0
        | inr q ↦ absurd (q.1 refl)
      ]
      | inr p ↦ absurd (p.1 refl)
    ]

pub last_of : {X : Type 0} (P : X → Type 0) (xs ys : List X) (x : X) → AllByRecursion P (xs ++ x ∷ ys) → P x
last_of P [] ys x h = h.0
last_of P (y ∷ xs) ys x h = last_of P xs ys x h.1

pub from_here : (before after : List Stop) (s : Stop) → Ordered (before ++ s ∷ after) → visits_from (begins s).0 (begins s).1 (before ++ s ∷ after) ≡ map visit (s ∷ after)
from_here [] after s h = ap (λ (x : Bool). cond x (map visit (s ∷ after)) (visits_from (begins s).0 (begins s).1 after)) (same_place (begins s).0 (begins s).1)
from_here (x ∷ before) after s h =
    let earlier : Precedes x s = last_of (Precedes x) before after s h.0 in
    let other = other_place (begins x).0 (begins s).0 (begins x).1 (begins s).1 (λ e f. omega (arith, earlier, e, f)) in
    ap (λ (y : Bool). cond y (map visit (x ∷ (before ++ s ∷ after))) (visits_from (begins s).0 (begins s).1 (before ++ s ∷ after))) other ∙ from_here before after s h.1

pub from_end : (lo hi d : ℕ) (ss : List Stop) → AllByRecursion (Between lo hi d) ss → visits_from hi d ss ≡ []
from_end lo hi d [] h = refl
from_end lo hi d (x ∷ ss) h =
    let other = other_place (begins x).0 hi (begins x).1 d (λ e f. omega (arith, h.0, e, f)) in
    ap (λ (y : Bool). cond y (map visit (x ∷ ss)) (visits_from hi d ss)) other ∙ from_end lo hi d ss h.1
