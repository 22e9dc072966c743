-- Where the links of a subtree lie among all links.
use Rattle.std.proofs.Common.{◌≡◌, ℕ, zero, suc, ◌+◌, ◌-◌, ◌<◌, ◌≤◌, List, [], ◌++◌, length, drop, get_or, refl, sym, ap, ◌∙◌, subst, append_assoc, length-append, arith, inl, inr}
use Rattle.std.proofs.lemmas.List.{append-nil, drop_at, drop-append-le, drop-drop, get_or_append_left, get_or-append_right}
use Rattle.std.proofs.lemmas.Bool.{cases_lt}
use Rattle.sj_json.specs.Tree.{Tree, null, truth, string, number, array, object, Items, no_items, item, Members, no_members, member, below, items_size, members_size, subtrees, items_subtrees, members_subtrees}
use Rattle.sj_json.specs.Links.{ups, item_ups, member_ups}
use Rattle.sj_json.proofs.Places.{length-subtrees}

mutual
  pub length-ups : (n : ℕ) (t : Tree) → length (ups n t) ≡ below t + 1
  length-ups n null = refl
  length-ups n (truth b) = refl
  length-ups n (string s) = refl
  length-ups n (number v) = refl
  length-ups n (array ts) = omega (arith, length-item_ups 1 ts)
  length-ups n (object ms) = omega (arith, length-member_ups 1 ms)

  pub length-item_ups : (n : ℕ) (ts : Items) → length (item_ups n ts) ≡ items_size ts
  length-item_ups n no_items = refl
  length-item_ups n (item t ts) = omega (arith, length-append (ups n t) (item_ups (n + 1 + below t) ts), length-ups n t, length-item_ups (n + 1 + below t) ts)

  pub length-member_ups : (n : ℕ) (ms : Members) → length (member_ups n ms) ≡ members_size ms
  length-member_ups n no_members = refl
  length-member_ups n (member k t ms) = omega (arith, length-append (ups n t) (member_ups (n + 1 + below t) ms), length-ups n t, length-member_ups (n + 1 + below t) ms)

-- the links of t begin at i
abbrev pub UpsAt : List ℕ → ℕ → Tree → Type 0
UpsAt xs i t = (n : ℕ) × (rest : List ℕ) × (drop i xs ≡ ups n t ++ rest)

in_front : (xs ys : List ℕ) (i : ℕ) (t : Tree) → i < length xs → UpsAt xs i t → UpsAt (xs ++ ys) i t
in_front xs ys i t h p =
    let le : i ≤ length xs = omega arith in
    (p.0, p.1 ++ ys, drop-append-le i xs ys le ∙ ap (λ z. z ++ ys) p.2 ∙ append_assoc (ups p.0 t) p.1 ys)

behind : (xs ys : List ℕ) (n i : ℕ) (t : Tree) → length xs ≡ n → n ≤ i → UpsAt ys (i - n) t → UpsAt (xs ++ ys) i t
behind xs ys n i t e h p =
    let same : n + (i - n) ≡ i = omega arith in
    (p.0, p.1, ap (λ j. drop j (xs ++ ys)) (sym same) ∙ sym (drop-drop (i - n) n (xs ++ ys)) ∙ ap (drop (i - n)) (drop_at xs ys n e) ∙ p.2)

-- a place in two lists that run side by side
both : (xs ys : List ℕ) (us vs : List Tree) (i : ℕ) → length xs ≡ length us → i < length us + length vs
    → (i < length us → UpsAt xs i (get_or us i null))
    → ((j : ℕ) → j < length vs → UpsAt ys j (get_or vs j null))
    → UpsAt (xs ++ ys) i (get_or (us ++ vs) i null)
both xs ys us vs i e h front back =
    elim (cases_lt i (length us)) as (λ _. UpsAt (xs ++ ys) i (get_or (us ++ vs) i null)) [
      | inl l ↦ subst (UpsAt (xs ++ ys) i) (sym (get_or_append_left us vs null i l)) (in_front xs ys i _ (omega arith) (front l))
      | inr l ↦ subst (UpsAt (xs ++ ys) i) (sym (get_or-append_right us vs (length us) i null refl l)) (behind xs ys (length us) i _ e l (back (i - length us) (omega arith)))
    ]

alone : (n : ℕ) (t : Tree) → UpsAt (ups n t) 0 t
alone n t = (n, [], sym (append-nil (ups n t)))

mutual
  pub ups_at : (n : ℕ) (t : Tree) (i : ℕ) → i < length (subtrees t) → UpsAt (ups n t) i (get_or (subtrees t) i null)
  ups_at n null zero h = alone n null
  ups_at n null (suc i) h = absurd (omega arith)
  ups_at n (truth b) zero h = alone n (truth b)
  ups_at n (truth b) (suc i) h = absurd (omega arith)
  ups_at n (string s) zero h = alone n (string s)
  ups_at n (number v) zero h = alone n (number v)
  ups_at n (string s) (suc i) h = absurd (omega arith)
  ups_at n (number v) (suc i) h = absurd (omega arith)
  ups_at n (array ts) zero h = alone n (array ts)
  ups_at n (array ts) (suc i) h = ups_at_items 1 ts i (omega arith)
  ups_at n (object ms) zero h = alone n (object ms)
  ups_at n (object ms) (suc i) h = ups_at_members 1 ms i (omega arith)

  ups_at_items : (n : ℕ) (ts : Items) (i : ℕ) → i < length (items_subtrees ts) → UpsAt (item_ups n ts) i (get_or (items_subtrees ts) i null)
  ups_at_items n no_items i h = absurd (omega arith)
  ups_at_items n (item t ts) i h =
      both (ups n t) (item_ups (n + 1 + below t) ts) (subtrees t) (items_subtrees ts) i
      (length-ups n t ∙ sym (length-subtrees t)) (omega (arith, length-append (subtrees t) (items_subtrees ts)))
      (λ l. ups_at n t i l) (λ j l. ups_at_items (n + 1 + below t) ts j l)

  ups_at_members : (n : ℕ) (ms : Members) (i : ℕ) → i < length (members_subtrees ms) → UpsAt (member_ups n ms) i (get_or (members_subtrees ms) i null)
  ups_at_members n no_members i h = absurd (omega arith)
  ups_at_members n (member k t ms) i h =
      both (ups n t) (member_ups (n + 1 + below t) ms) (subtrees t) (members_subtrees ms) i
      (length-ups n t ∙ sym (length-subtrees t)) (omega (arith, length-append (subtrees t) (members_subtrees ms)))
      (λ l. ups_at n t i l) (λ j l. ups_at_members (n + 1 + below t) ms j l)

-- ---- no link leads behind the root

beside : (n m i : ℕ) (xs ys : List ℕ) → length xs + n ≡ m → (get_or xs i 0 ≤ n + i) → (get_or ys (i - length xs) 0 ≤ m + (i - length xs)) → get_or (xs ++ ys) i 0 ≤ n + i
beside n m i xs ys e front back =
    elim (cases_lt i (length xs)) as (λ _. get_or (xs ++ ys) i 0 ≤ n + i) [
      | inl l ↦ omega (arith, get_or_append_left xs ys 0 i l, front)
      | inr l ↦ omega (arith, get_or-append_right xs ys (length xs) i 0 refl l, back, e)
    ]

mutual
  ups_le : (n : ℕ) (t : Tree) (i : ℕ) → get_or (ups n t) i 0 ≤ n + i
  ups_le n null zero = omega arith
  ups_le n null (suc i) = omega arith
  ups_le n (truth b) zero = omega arith
  ups_le n (truth b) (suc i) = omega arith
  ups_le n (string s) zero = omega arith
  ups_le n (number v) zero = omega arith
  ups_le n (string s) (suc i) = omega arith
  ups_le n (number v) (suc i) = omega arith
  ups_le n (array ts) zero = omega arith
  ups_le n (array ts) (suc i) = omega (arith, item_ups_le 1 ts i)
  ups_le n (object ms) zero = omega arith
  ups_le n (object ms) (suc i) = omega (arith, member_ups_le 1 ms i)

  item_ups_le : (n : ℕ) (ts : Items) (i : ℕ) → get_or (item_ups n ts) i 0 ≤ n + i
  item_ups_le n no_items i = omega arith
  item_ups_le n (item t ts) i =
      let m = n + 1 + below t in
      beside n m i (ups n t) (item_ups m ts) (omega (arith, length-ups n t)) (ups_le n t i) (item_ups_le m ts (i - length (ups n t)))

  member_ups_le : (n : ℕ) (ms : Members) (i : ℕ) → get_or (member_ups n ms) i 0 ≤ n + i
  member_ups_le n no_members i = omega arith
  member_ups_le n (member k t ms) i =
      let m = n + 1 + below t in
      beside n m i (ups n t) (member_ups m ms) (omega (arith, length-ups n t)) (ups_le n t i) (member_ups_le m ms (i - length (ups n t)))

pub link_le : (t : Tree) (i : ℕ) → get_or (ups 0 t) i 0 ≤ i
link_le t i = omega (arith, ups_le 0 t i)
