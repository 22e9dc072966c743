-- The elements from one index to another.
use Rattle.std.specs.Prelude.{◌≤ℤ◌, ◌<ℤ◌, int_le}
use Rattle.std.specs.Int.{int_min, int_max}
use Rattle.std.proofs.Common.{◌≡◌, ℕ, zero, suc, ◌+◌, ◌-◌, ◌<◌, ◌≤◌, pos, ◌-ℤ◌, List, [], ◌∷◌, map, take, drop, length, Bool, true, false, ◌&&◌, if◌then◌else◌, ◌⊎◌, inl, inr, leb, le-leb, refl, sym, ap, ◌∙◌, arith}
use Rattle.std.proofs.lemmas.Int.{ints}
use Rattle.std.proofs.lemmas.Bool.Decides.{leb_tells}
use Rattle.std.proofs.lemmas.List.{length-map, length-drop, drop-map, take-map}
use Rattle.sj_json.specs.Tree.{Tree, Child as JsonChild, numbered}
use Rattle.sj_path_tree.specs.declared.parts.Mode.TheVariants.{Lax}
use Rattle.sj_item.specs.Items.{ItemValue, item_tree}
use Rattle.sj_step.specs.Trace.{stop, only}
use Rattle.sj_step.specs.Reach.{Child, child_item, every, lax_range, between, range_of_one}
use Rattle.sj_step.proofs.Ranges.{lax_range_stops, lax_range_goes}
use Rattle.sj_forward.specs.Walk.{has_index}
use Rattle.sj_forward_laws.specs.Reached.{values, spanned}
use Rattle.sj_forward_laws.proofs.Given.{Gives, gives_same, gives_trace, gives_after, gives_every, named, named_numbered}

abbrev Trees : Type 0
Trees = List Tree

-- ---- an index among them

over : (a b : ℕ) → b < a → leb a b ≡ false
over a b h = go (leb_tells a b)
  where
    go : ((leb a b ≡ true) × (a ≤ b)) ⊎ ((leb a b ≡ false) × (b < a)) → leb a b ≡ false
    go (inl p) = absurd (omega (arith, h, p.1))
    go (inr p) = p.0

and_false : (p q : Bool) → q ≡ false → (p && q) ≡ false
and_false true q e = e
and_false false q e = refl

behind : (a b i : ℕ) → b < i → has_index a b i ≡ false
behind a b i h = and_false (leb a i) (leb i b) (over i b h)

before : (a b i : ℕ) → i < a → has_index a b i ≡ false
before a b i h = ap (λ (p : Bool). p && leb i b) (over a i h)

among : (a b i : ℕ) → a ≤ i → i ≤ b → has_index a b i ≡ true
among a b i h k = ap (λ (p : Bool). p && leb i b) (le-leb a i h) ∙ le-leb i b k

-- ---- spans of lists

chosen : (p q : Bool) (ts us : Trees) → p ≡ q → (if p then ts else us) ≡ (if q then ts else us)
chosen p q ts us e = ap (λ (b : Bool). if b then ts else us) e

-- no index is in a span that is turned
spanned_turned : (a b i : ℕ) (ts : Trees) → b < a → spanned a b i ts ≡ []
spanned_turned a b i [] h = refl
spanned_turned a b i (t ∷ ts) h = chosen (has_index a b i) false _ _ (outside (leb_tells i b)) ∙ spanned_turned a b (suc i) ts h
  where
    outside : ((leb i b ≡ true) × (i ≤ b)) ⊎ ((leb i b ≡ false) × (b < i)) → has_index a b i ≡ false
    outside (inl p) = before a b i (omega (arith, h, p.1))
    outside (inr p) = behind a b i p.1

-- nor one of a list that is over before the span begins
spanned_short : (a b i : ℕ) (ts : Trees) → i + length ts ≤ a → spanned a b i ts ≡ []
spanned_short a b i [] h = refl
spanned_short a b i (t ∷ ts) h =
    let here : i < a = omega (arith, h) in
    let next : suc i + length ts ≤ a = omega (arith, h) in
    chosen (has_index a b i) false _ _ (before a b i here) ∙ spanned_short a b (suc i) ts next

-- or of one that begins when it is over
spanned_over : (a b i : ℕ) (ts : Trees) → b < i → spanned a b i ts ≡ []
spanned_over a b i [] h = refl
spanned_over a b i (t ∷ ts) h =
    let next : b < suc i = omega (arith, h) in
    chosen (has_index a b i) false _ _ (behind a b i h) ∙ spanned_over a b (suc i) ts next

spanned_skip : (a b i n : ℕ) (ts : Trees) → i + n ≡ a → spanned a b i ts ≡ spanned a b a (drop n ts)
spanned_skip a b i zero ts h = let same : i ≡ a = omega (arith, h) in ap (λ (j : ℕ). spanned a b j ts) same
spanned_skip a b i (suc n) [] h = refl
spanned_skip a b i (suc n) (t ∷ ts) h =
    let here : i < a = omega (arith, h) in
    let next : suc i + n ≡ a = omega (arith, h) in
    chosen (has_index a b i) false _ _ (before a b i here) ∙ spanned_skip a b (suc i) n ts next

-- n are in the span, and behind these the list or the span is over
spanned_take : (a b i n : ℕ) (ts : Trees) → a ≤ i → n ≤ length ts → i + n ≤ b + 1 → (n < length ts → i + n ≡ b + 1) → spanned a b i ts ≡ take n ts
spanned_take a b i zero [] h within inside end = refl
spanned_take a b i (suc n) [] h within inside end = refl
spanned_take a b i zero (t ∷ ts) h within inside end =
    let last : i + 0 ≡ b + 1 = end (omega arith) in
    spanned_over a b i (t ∷ ts) (omega (arith, last))
spanned_take a b i (suc n) (t ∷ ts) h within inside end =
    let here : i ≤ b = omega (arith, inside) in
    let next : a ≤ suc i = omega (arith, h) in
    let less : n ≤ length ts = omega (arith, within) in
    let fits : suc i + n ≤ b + 1 = omega (arith, inside) in
    chosen (has_index a b i) true _ _ (among a b i h here)
    ∙ ap (λ (us : Trees). t ∷ us) (spanned_take a b (suc i) n ts next less fits (λ more. omega (arith, end (omega (arith, more)))))

-- ---- a range of an array

abbrev numbered_items : ℕ → List JsonChild → List Child
numbered_items i ks = map child_item (numbered i ks)

-- the children of a slice, as trees
sliced_values : (n a : ℕ) (cs : List Child) → values (map named (take n (drop a cs))) ≡ take n (drop a (values (map named cs)))
sliced_values n a cs = simp (drop-map, take-map)

values_length : (ks : List JsonChild) → length (values ks) ≡ length ks
values_length ks = length-map ks (λ c. c.1)

ends : (a b last i : ℕ) (ks : List JsonChild) → pos last ≡ int_min (pos b) (pos (length ks) -ℤ pos 1) → a ≤ last → last < length ks → last ≤ b → (last + 1 < length ks → last ≡ b)
    → Gives (lax_range (pos a) (pos b) (numbered_items i ks)) (spanned a b 0 (values ks))
ends a b last i ks end ordered within inside full =
    let start : pos a ≡ int_max (pos a) (pos 0) = grind (arith, ints) in
    let turned : pos a ≤ℤ pos last = grind (arith, ints) in
    let n : ℕ = (last + 1) - a in
    let cs : List Child = numbered_items i ks in
    let ts : Trees = values ks in
    let size : length (drop a ts) ≡ length ks - a = length-drop a ts ∙ ap (λ (m : ℕ). m - a) (values_length ks) in
    let these : values (map named (take n (drop a cs))) ≡ take n (drop a ts) =
    sliced_values n a cs ∙ ap (λ (us : List JsonChild). take n (drop a (values us))) (named_numbered i ks) in
    let few : n ≤ length (drop a ts) = omega (arith, size, within, ordered) in
    let fits : a + n ≤ b + 1 = omega (arith, inside, ordered) in
    let all : spanned a b 0 ts ≡ take n (drop a ts) =
    spanned_skip a b 0 a ts (omega arith)
    ∙ spanned_take a b a n (drop a ts) (omega arith) few fits (λ more. omega (arith, ordered, full (omega (arith, more, size, ordered)))) in
    let is : lax_range (pos a) (pos b) cs ≡ between a (last + 1) cs = lax_range_goes (pos a) (pos b) (pos a) (pos last) i ks start end turned in
    gives_trace (lax_range (pos a) (pos b) cs) (between a (last + 1) cs) (spanned a b 0 ts) is
    (gives_same (between a (last + 1) cs) (values (map named (take n (drop a cs)))) (spanned a b 0 ts)
    (gives_after a (every 1 (take n (drop a cs))) (values (map named (take n (drop a cs)))) (gives_every 1 (take n (drop a cs))))
    (these ∙ sym all))

stops : (a b i : ℕ) (ks : List JsonChild) → int_min (pos b) (pos (length ks) -ℤ pos 1) <ℤ int_max (pos a) (pos 0) → spanned a b 0 (values ks) ≡ []
    → Gives (lax_range (pos a) (pos b) (numbered_items i ks)) (spanned a b 0 (values ks))
stops a b i ks turned none =
    gives_trace (lax_range (pos a) (pos b) (numbered_items i ks)) stop (spanned a b 0 (values ks))
    (lax_range_stops (pos a) (pos b) (int_max (pos a) (pos 0)) (int_min (pos b) (pos (length ks) -ℤ pos 1)) i ks refl refl turned)
    (refl, sym none)

pub gives_range : (a b i : ℕ) (ks : List JsonChild) → Gives (lax_range (pos a) (pos b) (map child_item (numbered i ks))) (spanned a b 0 (values ks))
gives_range a b i ks = go (leb_tells a b) (leb_tells (length ks) a) (leb_tells (length ks) b)
  where
    go : ((leb a b ≡ true) × (a ≤ b)) ⊎ ((leb a b ≡ false) × (b < a)) → ((leb (length ks) a ≡ true) × (length ks ≤ a)) ⊎ ((leb (length ks) a ≡ false) × (a < length ks))
        → ((leb (length ks) b ≡ true) × (length ks ≤ b)) ⊎ ((leb (length ks) b ≡ false) × (b < length ks))
        → Gives (lax_range (pos a) (pos b) (numbered_items i ks)) (spanned a b 0 (values ks))
    go (inr p) q r = let h : b < a = p.1 in stops a b i ks (grind (arith, ints, h)) (spanned_turned a b 0 (values ks) h)
    go (inl p) (inl q) r =
        let h : length ks ≤ a = q.1 in
        stops a b i ks (grind (arith, ints, h)) (spanned_short a b 0 (values ks) (omega (arith, h, values_length ks)))
    go (inl p) (inr q) (inr r) =
        let h : b < length ks = r.1 in
        let end : pos b ≡ int_min (pos b) (pos (length ks) -ℤ pos 1) = grind (arith, ints, h) in
        ends a b b i ks end p.1 h (omega arith) (λ more. refl)
    go (inl p) (inr q) (inl r) =
        let long : a < length ks = q.1 in
        let h : length ks ≤ b = r.1 in
        let last : ℕ = length ks - 1 in
        let one : last + 1 ≡ length ks = omega (arith, long) in
        let end : pos (length ks - 1) ≡ int_min (pos b) (pos (length ks) -ℤ pos 1) = grind (arith, ints, h, long) in
        ends a b (length ks - 1) i ks end (omega (arith, long)) (omega (arith, long)) (omega (arith, h)) (λ more. absurd (omega (arith, more, one)))

-- ---- a range of an item that is no array

one_at : (a b : ℕ) → (int_le (pos a) (pos 0) && int_le (pos 0) (pos b)) ≡ has_index a b 0
one_at a b = refl

one_given : (p : Bool) (x : ItemValue) (t : Tree) → item_tree x ≡ t → Gives (if p then only x else stop) (if p then t ∷ [] else [])
one_given true x t e = (refl, ap (λ (u : Tree). u ∷ []) e)
one_given false x t e = (refl, refl)

pub gives_one : (a b : ℕ) (x : ItemValue) (t : Tree) → item_tree x ≡ t → Gives (range_of_one Lax (pos a) (pos b) x) (spanned a b 0 (t ∷ []))
gives_one a b x t e =
    gives_trace (range_of_one Lax (pos a) (pos b) x) (if has_index a b 0 then only x else stop) (spanned a b 0 (t ∷ []))
    (ap (λ (p : Bool). if p then only x else stop) (one_at a b))
    (one_given (has_index a b 0) x t e)
