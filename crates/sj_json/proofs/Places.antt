-- Where the subtree of a number lies in a layout.
use Rattle.std.proofs.Common.{◌≡◌, ℕ, suc, zero, ◌+◌, ◌-◌, ◌<◌, ◌≤◌, List, [], ◌++◌, length, drop, get_or, Option, Some, None, refl, sym, ap, ◌∙◌, subst, append_assoc, length-append, arith, inl, inr}
use Rattle.std.proofs.lemmas.List.{append-nil, drop_at, drop-append-le, drop-drop, get_or_append_left, get_or-append_right}
use Rattle.std.proofs.lemmas.Bool.{cases_lt}
use Rattle.sj_json.specs.Tree.{Tree, null, truth, string, number, array, object, Items, no_items, item, Members, no_members, member, below, items_size, members_size, subtrees, items_subtrees, members_subtrees}
use Rattle.sj_json.specs.Cells.{Entry, layout, layout_items, layout_members}

-- ---- sizes

mutual
  pub length-layout : (k : Option (List ℕ)) (t : Tree) → length (layout k t) ≡ below t + 1
  length-layout k null = refl
  length-layout k (truth b) = refl
  length-layout k (string s) = refl
  length-layout k (number v) = refl
  length-layout k (array ts) = omega (arith, length-layout_items ts)
  length-layout k (object ms) = omega (arith, length-layout_members ms)

  pub length-layout_items : (ts : Items) → length (layout_items ts) ≡ items_size ts
  length-layout_items no_items = refl
  length-layout_items (item t ts) = omega (arith, length-append (layout None t) (layout_items ts), length-layout None t, length-layout_items ts)

  pub length-layout_members : (ms : Members) → length (layout_members ms) ≡ members_size ms
  length-layout_members no_members = refl
  length-layout_members (member k t ms) = omega (arith, length-append (layout (Some k) t) (layout_members ms), length-layout (Some k) t, length-layout_members ms)

mutual
  pub length-subtrees : (t : Tree) → length (subtrees t) ≡ below t + 1
  length-subtrees null = refl
  length-subtrees (truth b) = refl
  length-subtrees (string s) = refl
  length-subtrees (number v) = refl
  length-subtrees (array ts) = omega (arith, length-items_subtrees ts)
  length-subtrees (object ms) = omega (arith, length-members_subtrees ms)

  pub length-items_subtrees : (ts : Items) → length (items_subtrees ts) ≡ items_size ts
  length-items_subtrees no_items = refl
  length-items_subtrees (item t ts) = omega (arith, length-append (subtrees t) (items_subtrees ts), length-subtrees t, length-items_subtrees ts)

  pub length-members_subtrees : (ms : Members) → length (members_subtrees ms) ≡ members_size ms
  length-members_subtrees no_members = refl
  length-members_subtrees (member k t ms) = omega (arith, length-append (subtrees t) (members_subtrees ms), length-subtrees t, length-members_subtrees ms)

-- ---- places

-- the layout of t begins at i
abbrev pub LiesAt : List Entry → ℕ → Tree → Type 0
LiesAt cs i t = (k : Option (List ℕ)) × (rest : List Entry) × (drop i cs ≡ layout k t ++ rest)

lies_in_front : (xs ys : List Entry) (i : ℕ) (t : Tree) → i < length xs → LiesAt xs i t → LiesAt (xs ++ ys) i t
lies_in_front xs ys i t h p =
    let le : i ≤ length xs = omega arith in
    (p.0, p.1 ++ ys, drop-append-le i xs ys le ∙ ap (λ z. z ++ ys) p.2 ∙ append_assoc (layout p.0 t) p.1 ys)

lies_behind : (xs ys : List Entry) (n i : ℕ) (t : Tree) → length xs ≡ n → n ≤ i → LiesAt ys (i - n) t → LiesAt (xs ++ ys) i t
lies_behind xs ys n i t e h p =
    let same : n + (i - n) ≡ i = omega arith in
    (p.0, p.1, ap (λ j. drop j (xs ++ ys)) (sym same) ∙ sym (drop-drop (i - n) n (xs ++ ys)) ∙ ap (drop (i - n)) (drop_at xs ys n e) ∙ p.2)

-- a place in two lists that run side by side
lies : (xs ys : List Entry) (us vs : List Tree) (i : ℕ) → length xs ≡ length us → i < length us + length vs
    → (i < length us → LiesAt xs i (get_or us i null))
    → ((j : ℕ) → j < length vs → LiesAt ys j (get_or vs j null))
    → LiesAt (xs ++ ys) i (get_or (us ++ vs) i null)
lies xs ys us vs i e h front back =
    elim (cases_lt i (length us)) as (λ _. LiesAt (xs ++ ys) i (get_or (us ++ vs) i null)) [
      | inl l ↦ subst (LiesAt (xs ++ ys) i) (sym (get_or_append_left us vs null i l)) (lies_in_front xs ys i _ (omega arith) (front l))
      | inr l ↦ subst (LiesAt (xs ++ ys) i) (sym (get_or-append_right us vs (length us) i null refl l)) (lies_behind xs ys (length us) i _ e l (back (i - length us) (omega arith)))
    ]

alone : (k : Option (List ℕ)) (t : Tree) → LiesAt (layout k t) 0 t
alone k t = (k, [], sym (append-nil (layout k t)))

mutual
  pub lies_at : (k : Option (List ℕ)) (t : Tree) (i : ℕ) → i < length (subtrees t) → LiesAt (layout k t) i (get_or (subtrees t) i null)
  lies_at k null zero h = alone k null
  lies_at k null (suc i) h = absurd (omega arith)
  lies_at k (truth b) zero h = alone k (truth b)
  lies_at k (truth b) (suc i) h = absurd (omega arith)
  lies_at k (string s) zero h = alone k (string s)
  lies_at k (number v) zero h = alone k (number v)
  lies_at k (string s) (suc i) h = absurd (omega arith)
  lies_at k (number v) (suc i) h = absurd (omega arith)
  lies_at k (array ts) zero h = alone k (array ts)
  lies_at k (array ts) (suc i) h = lies_at_items ts i (omega arith)
  lies_at k (object ms) zero h = alone k (object ms)
  lies_at k (object ms) (suc i) h = lies_at_members ms i (omega arith)

  pub lies_at_items : (ts : Items) (i : ℕ) → i < length (items_subtrees ts) → LiesAt (layout_items ts) i (get_or (items_subtrees ts) i null)
  lies_at_items no_items i h = absurd (omega arith)
  lies_at_items (item t ts) i h =
      lies (layout None t) (layout_items ts) (subtrees t) (items_subtrees ts) i
      (length-layout None t ∙ sym (length-subtrees t)) (omega (arith, length-append (subtrees t) (items_subtrees ts)))
      (λ l. lies_at None t i l) (λ j l. lies_at_items ts j l)

  pub lies_at_members : (ms : Members) (i : ℕ) → i < length (members_subtrees ms) → LiesAt (layout_members ms) i (get_or (members_subtrees ms) i null)
  lies_at_members no_members i h = absurd (omega arith)
  lies_at_members (member k t ms) i h =
      lies (layout (Some k) t) (layout_members ms) (subtrees t) (members_subtrees ms) i
      (length-layout (Some k) t ∙ sym (length-subtrees t)) (omega (arith, length-append (subtrees t) (members_subtrees ms)))
      (λ l. lies_at (Some k) t i l) (λ j l. lies_at_members ms j l)
