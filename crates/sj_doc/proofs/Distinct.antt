-- Distinct keys: behind references, in another order, and in a sorted list.
use Rattle.std.proofs.Common.{◌≡◌, ◌≢◌, ℕ, ◌+◌, ◌<◌, ◌⊎◌, List, [], ◌∷◌, length, get_or, take, set, swap, Bool, true, false, IsPermutation, IsSorted, Ordering, Less, Equal, Greater, nat_cmp, is_eq, is_lt, bytes_eq, inl, inr, refl, sym, ap, ◌∙◌, ap₂, arith, ⊎_elim, true≢false, below_more, length-take, get_or-take, get_or-set_same, get_or-set_other}
use Rattle.std.proofs.lemmas.Bool.{cases_eq}
use Rattle.std.proofs.lemmas.Cmp.{on_total, nat_list_cmp_total}
use Rattle.std.proofs.lemmas.List.{get_or-map, get_or_default, length-map}
use Rattle.std.proofs.lemmas.List.Edits.{Swapped, swapped_from_swap, length-swap}
use Rattle.std.proofs.lemmas.List.Sorted.{IsPermutation-keeps, IsPermutation-map, IsPermutation-sym}
use Rattle.std.proofs.lemmas.Map.Keys.{sorted_from_all_adjacent, Less-from_sorted}
use Rattle.std.proofs.lemmas.Map.Text.{is_eq-slice_cmp}
use Rattle.std.proofs.lemmas.Slice.Eq.{bytes_eq-Decides}
use Rattle.std.specs.Cmp.Lexicographic.{slice_cmp}
use Rattle.std.specs.List.{IsAnyAnswer}
use Rattle.std.specs.Ordering.{ordering_reverse}
use Rattle.sj_doc.specs.Slots.{Key, texts, slot}
use Rattle.sj_json.specs.Keys.{AreDistinct}

-- the keys at i and j differ
abbrev pub DifferAt : List Key → ℕ → ℕ → Type 0
DifferAt ks i j = (d : Key) → bytes_eq (get_or ks i d).now (get_or ks j d).now ≡ false

apart : (a b : List ℕ) → bytes_eq a b ≡ false → a ≢ b
apart a b other e = let same = (bytes_eq-Decides a b).1 e in cc

tested : (a b : List ℕ) (t : Bool) → bytes_eq a b ≡ t → a ≢ b → t ≡ false
tested a b true e other = absurd (other ((bytes_eq-Decides a b).0 e))
tested a b false e other = refl

-- each key below n has marked its slot
abbrev pub SlotsTaken : List Bool → List Key → ℕ → Type 0
SlotsTaken taken ks n = (j : ℕ) → j < n → (d : Key) → get_or taken (slot (get_or ks j d).now) false ≡ true

stays : (taken : List Bool) (a b : ℕ) → a < length taken → get_or taken b false ≡ true → get_or (set taken a true) b false ≡ true
stays taken a b inside was =
    ⊎_elim (λ same. ap (λ k. get_or (set taken a true) k false) same ∙ get_or-set_same taken a true false inside) (λ other. get_or-set_other taken a b true false other ∙ was) (cases_eq b a)

pub AreDistinct-from_places : (ks : List Key) → ((i j : ℕ) → i < j → j < length ks → DifferAt ks i j) → AreDistinct (texts ks)
AreDistinct-from_places [] h i j d less within e = omega arith
AreDistinct-from_places (k ∷ ks) h i j d less within e =
    let all = k ∷ ks in
    let inside : j < length all = omega (arith, length-map all (λ (x : Key). x.now)) in
    apart _ _ (h i j less inside k) (sym (get_or-map (λ x. x.now) all i k d (omega arith)) ∙ e ∙ get_or-map (λ x. x.now) all j k d inside)

pub DifferAt-from_distinct : (ks : List Key) (i j : ℕ) → AreDistinct (texts ks) → i < j → j < length ks → DifferAt ks i j
DifferAt-from_distinct ks i j h less within d =
    let inside : j < length (texts ks) = omega (arith, length-map ks (λ (x : Key). x.now)) in
    tested (get_or ks i d).now (get_or ks j d).now _ refl (λ e. h i j [] less inside (get_or-map (λ x. x.now) ks i d [] (omega arith) ∙ e ∙ sym (get_or-map (λ x. x.now) ks j d [] within)))

-- ---- the key at i, read with the default e, beside those before it

module _ (ks : List Key) (i : ℕ) (e : Key) (within : i < length ks) where
  read_before : (j : ℕ) (d : Key) → j < i → bytes_eq (get_or (take i ks) j d).now (get_or ks i e).now ≡ bytes_eq (get_or ks j d).now (get_or ks i d).now
  read_before j d less = ap₂ (λ x y. bytes_eq x.now y.now) (get_or-take i ks j d less) (get_or_default ks i e d within)

  pub DifferAt-from_contains : IsAnyAnswer (λ y b. bytes_eq y.now (get_or ks i e).now ≡ b) (take i ks) false → (j : ℕ) → j < i → DifferAt ks j i
  DifferAt-from_contains none j less d = sym (read_before j d less) ∙ none j d (omega arith) (omega (arith, length-take i ks))

  pub repeated_from_contains : IsAnyAnswer (λ y b. bytes_eq y.now (get_or ks i e).now ≡ b) (take i ks) true → ¬ AreDistinct (texts ks)
  repeated_from_contains found h =
      let less : found.0 < i = omega (arith, found.1, length-take i ks) in
      true≢false (sym (found.2 e) ∙ read_before found.0 e less ∙ DifferAt-from_distinct ks found.0 i h less within e)

  -- A key before it with the same text would have taken its slot.
  pub DifferAt-from_free_slot : (taken : List Bool) → SlotsTaken taken ks i → get_or taken (slot (get_or ks i e).now) false ≡ false → (j : ℕ) → j < i → DifferAt ks j i
  DifferAt-from_free_slot taken h free j less d =
      tested (get_or ks j d).now (get_or ks i d).now _ refl
      (λ same. true≢false (sym (h j less d) ∙ ap (λ t. get_or taken (slot t) false) (same ∙ ap (λ k. k.now) (get_or_default ks i d e within)) ∙ free))

  pub SlotsTaken-more : (taken : List Bool) → slot (get_or ks i e).now < length taken → SlotsTaken taken ks i → SlotsTaken (set taken (slot (get_or ks i e).now) true) ks (i + 1)
  SlotsTaken-more taken inside h =
      let mine = slot (get_or ks i e).now in
      let here : (d : Key) → get_or (set taken mine true) (slot (get_or ks i d).now) false ≡ true =
      λ d. ap (λ k. get_or (set taken mine true) (slot k.now) false) (get_or_default ks i d e within) ∙ get_or-set_same taken mine true false inside in
      below_more (λ j. (d : Key) → get_or (set taken mine true) (slot (get_or ks j d).now) false ≡ true) i (λ j less d. stays taken mine _ inside (h j less d)) here

-- ---- another order

either_way : (ks : List (List ℕ)) → AreDistinct ks → (i j : ℕ) (d : List ℕ) → i < length ks → j < length ks → get_or ks i d ≡ get_or ks j d → i ≡ j
either_way ks h i j d p q e =
    let not_below : i < j → ⊥ = λ less. h i j d less q e in
    let not_above : j < i → ⊥ = λ less. h j i d less p (sym e) in
    omega arith

-- where a swap of a and b took the element at m from
abbrev From : ℕ → ℕ → ℕ → ℕ → Type 0
From a b m k = ((m ≡ a) × (k ≡ b)) ⊎ (((m ≡ b) × (k ≡ a)) ⊎ ((m ≢ a) × (m ≢ b) × (k ≡ m)))

origin : {X : Type 0} (f g : ℕ → X) (a b m : ℕ) → Swapped f g a b → (m ≡ a) ⊎ (m ≢ a) → (m ≡ b) ⊎ (m ≢ b) → (k : ℕ) × From a b m k × (g m ≡ f k)
origin f g a b m s (inl e) y = (b, inl (e, refl), ap g e ∙ s.0)
origin f g a b m s (inr n) (inl e) = (a, inr (inl (e, refl)), ap g e ∙ s.1)
origin f g a b m s (inr n) (inr o) = (m, inr (inr (n, o, refl)), s.2 m n o)

AreDistinct-swap : (ks : List (List ℕ)) (a b : ℕ) → a < length ks → b < length ks → AreDistinct ks → AreDistinct (swap ks a b)
AreDistinct-swap ks a b p q h i j d less within e =
    let len = length-swap ks a b in
    let s = swapped_from_swap ks (swap ks a b) a b d p q refl in
    let x = origin _ _ a b i s (cases_eq i a) (cases_eq i b) in
    let y = origin _ _ a b j s (cases_eq j a) (cases_eq j b) in
    let same = either_way ks h x.0 y.0 d (omega (arith, x.1)) (omega (arith, y.1)) (sym x.2 ∙ e ∙ y.2) in
    omega (arith, x.1, y.1)

pub AreDistinct-permutation : (old new : List Key) → IsPermutation old new → AreDistinct (texts old) → AreDistinct (texts new)
AreDistinct-permutation old new moved h = IsPermutation-keeps (texts old) AreDistinct h AreDistinct-swap (texts new) (IsPermutation-map (λ k. k.now) old new moved)

pub AreDistinct-permutation_back : (old new : List Key) → IsPermutation old new → AreDistinct (texts new) → AreDistinct (texts old)
AreDistinct-permutation_back old new moved = AreDistinct-permutation new old (IsPermutation-sym old new moved)

-- ---- a sorted list

abbrev pub key_cmp : Key → Key → Ordering
key_cmp a b = slice_cmp nat_cmp a.now b.now

only_less : (o p : Ordering) → o ≡ ordering_reverse p → is_lt p ≡ false → is_eq o ≡ false → o ≡ Less
only_less o Less e p q = cc
only_less o Equal e p q = let tie = ap is_eq (sym e) ∙ q in cc
only_less o Greater e p q = e

-- Neighbours that are in order and differ rise strictly, and so do all pairs.
pub DifferAt-from_sorted : (ks : List Key) → IsSorted key_cmp ks → ((k : ℕ) → k + 1 < length ks → DifferAt ks k (k + 1))
    → (i j : ℕ) → i < j → j < length ks → DifferAt ks i j
DifferAt-from_sorted ks sorted neighbours i j less within d =
    let total = on_total (λ (k : Key). k.now) nat_list_cmp_total in
    let rises : (k : ℕ) → k + 1 < length ks → key_cmp (get_or ks k d) (get_or ks (k + 1) d) ≡ Less =
    λ k h. let x = get_or ks k d in let y = get_or ks (k + 1) d in
    only_less (key_cmp x y) (key_cmp y x) (total.antisymm x y) (sorted k d (omega arith) h) (is_eq-slice_cmp x.now y.now ∙ neighbours k h d) in
    let below = Less-from_sorted key_cmp ks i j d (sorted_from_all_adjacent total ks d rises) less within in
    sym (is_eq-slice_cmp (get_or ks i d).now (get_or ks j d).now) ∙ ap is_eq below
