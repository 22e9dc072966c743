-- What was seen of pairs is the verdict of a comparison.
use Rattle.std.proofs.Common.{◌≡◌, ℕ, suc, ◌+◌, ◌<◌, Bool, true, false, cond, ◌||◌, ◌&&◌, ap, sym, ◌∙◌, refl, arith}
use Rattle.std.specs.Prelude.{nat_lt, if◌then◌else◌}
use Rattle.std.specs.List.{list_any}
use Rattle.std.proofs.lemmas.Bool.Decides.{nat_tests}
use Rattle.sj_path_tree.specs.declared.parts.Mode.{Mode}
use Rattle.sj_path_tree.specs.declared.parts.Mode.TheVariants.{Lax, Strict}
use Rattle.sj_item.specs.Items.{ItemValue}
use Rattle.sj_item.specs.Truths.{truth_of}
use Rattle.sj_item.specs.declared.truth.Truth.{Truth}
use Rattle.sj_item.specs.declared.truth.Truth.TheVariants.{True, False, Unknown}
use Rattle.sj_step.specs.Trace.{Trace, stop, fail, visit, give, only, items, count, visits}
use Rattle.sj_plain_path.specs.Truths.{is_unknown, is_true}
use Rattle.sj_cursor.specs.Verdicts.{is_faulty, has_item}
use Rattle.sj_cursor.specs.Comparisons.{PairTruth, has_true, has_doubt, compare_truth, compare_allow, compare_verdict}
use Rattle.sj_plain_path.specs.Pairings.{pairing_true, pairing_doubt, pairing_cost, PairingSeen, decided_truth, pairing_truth}
use Rattle.sj_cursor.specs.Pairings.{pairings_true, pairings_doubt, pairings_cost}
use Rattle.sj_cursor.specs.PairingsSeen.{PairingsSeen}
use Rattle.sj_cursor.specs.Asked.{Asked}
use Rattle.sj_cursor.specs.Decides.{Decides}
use Rattle.sj_cursor.specs.Cells.{is_lax}
use Rattle.sj_cursor.proofs.ComparisonPairs.{pairings_true_is, pairing_doubt_is, pairings_doubt_is, lax_allow_some, lax_allow_none, strict_allow_some, strict_allow_none}

-- ---- whether there is a left item

some_items : (n : ℕ) → nat_lt 0 n ≡ true → 0 < n
some_items n e = grind (arith, nat_tests)

no_items : (n : ℕ) → nat_lt 0 n ≡ false → n ≡ 0
no_items n e = grind (arith, nat_tests)

-- a true pair has a left item
true_has_item : (pair : PairTruth) (l r : Trace) → pairings_true pair l r ≡ true → 0 < count l
true_has_item pair stop r e = cc
true_has_item pair (fail s) r e = cc
true_has_item pair (visit l) r e = true_has_item pair l r e
true_has_item pair (give x l) r e = omega arith

or_same : (f u d : Bool) → ((f || u) || d) || f ≡ (f || u) || d
or_same true u d = refl
or_same false u true = or_true u
  where
    or_true : (u : Bool) → (u || true) || false ≡ u || true
    or_true true = refl
    or_true false = refl
or_same false true false = refl
or_same false false false = refl

-- where there is a left item, a fault of the right trace was seen
doubt_some : (pair : PairTruth) (l r : Trace) → 0 < count l → pairings_doubt pair l r || is_faulty r ≡ pairings_doubt pair l r
doubt_some pair stop r h = let no : ⊥ = omega (arith, h) in absurd no
doubt_some pair (fail s) r h = refl
doubt_some pair (visit l) r h = doubt_some pair l r h
doubt_some pair (give x l) r h =
    let u : Bool = list_any (λ y. is_unknown (pair x y)) (items r) in
    ap (λ b. (b || pairings_doubt pair l r) || is_faulty r) (pairing_doubt_is pair x r)
    ∙ or_same (is_faulty r) u (pairings_doubt pair l r)
    ∙ ap (λ b. b || pairings_doubt pair l r) (sym (pairing_doubt_is pair x r))

or_false : (a : Bool) → a || false ≡ a
or_false true = refl
or_false false = refl

-- all doubts, with that of a right operand that was asked by itself
all_doubts : (pair : PairTruth) (l r : Trace) (some faulty : Bool) → some ≡ has_item l → faulty ≡ cond some false (is_faulty r) → pairings_doubt pair l r || faulty ≡ has_doubt pair l r
all_doubts pair l r true faulty e k =
    ap (λ z. pairings_doubt pair l r || z) k ∙ or_false (pairings_doubt pair l r) ∙ sym (doubt_some pair l r (some_items (count l) (sym e))) ∙ pairings_doubt_is pair l r
all_doubts pair l r false faulty e k = ap (λ z. pairings_doubt pair l r || z) k ∙ pairings_doubt_is pair l r

-- ---- costs

no_cost : (early : Bool) (pair : PairTruth) (l r : Trace) → count l ≡ 0 → pairings_cost early pair l r ≡ visits l
no_cost early pair stop r e = refl
no_cost early pair (fail s) r e = refl
no_cost early pair (visit l) r e = ap suc (no_cost early pair l r e)
no_cost early pair (give x l) r e = cc

all_cost : (mode : Mode) (pair : PairTruth) (l r : Trace) (some : Bool) → some ≡ has_item l → pairings_cost (is_lax mode) pair l r + cond some 0 (visits r) ≡ compare_allow mode pair l r
all_cost Lax pair l r true e = omega (arith, lax_allow_some pair l r (some_items (count l) (sym e)))
all_cost Lax pair l r false e = let none : count l ≡ 0 = no_items (count l) (sym e) in omega (arith, lax_allow_none pair l r none, no_cost true pair l r none)
all_cost Strict pair l r true e = omega (arith, strict_allow_some pair l r (some_items (count l) (sym e)))
all_cost Strict pair l r false e = let none : count l ≡ 0 = no_items (count l) (sym e) in omega (arith, strict_allow_none pair l r none, no_cost false pair l r none)

-- ---- the truth

lax_true : (pair : PairTruth) (l r : Trace) → has_true pair l r ≡ true → compare_truth Lax pair l r ≡ True
lax_true pair l r e = ap (λ b. cond b True (cond (has_doubt pair l r) Unknown False)) e

-- where no true pair decided early
decided : (mode : Mode) (pair : PairTruth) (l r : Trace) (found doubt : Bool) → is_lax mode && found ≡ false → found ≡ has_true pair l r → doubt ≡ has_doubt pair l r
    → decided_truth found doubt ≡ compare_truth mode pair l r
decided Lax pair l r found doubt q e k =
    ap (λ d. decided_truth found d) k
    ∙ ap (λ f. cond (has_doubt pair l r) Unknown (truth_of f)) q
    ∙ sym (ap (λ b. cond b True (cond (has_doubt pair l r) Unknown False)) (sym e ∙ q))
decided Strict pair l r found doubt q e k = ap (λ d. decided_truth found d) k ∙ ap (λ f. cond (has_doubt pair l r) Unknown (truth_of f)) e

and_true_left : (a b : Bool) → a && b ≡ true → a ≡ true
and_true_left true b e = refl
and_true_left false b e = cc

and_true_right : (a b : Bool) → a && b ≡ true → b ≡ true
and_true_right true b e = e
and_true_right false b e = cc

-- a true pair was found early
pub compare_early : (mode : Mode) (pair : PairTruth) (l r : Trace) (found doubt some : Bool) (a b : ℕ)
    → PairingsSeen (is_lax mode) pair l r found doubt some a b → is_lax mode && found ≡ true → Decides (compare_verdict mode pair l r) True a b
unfolding compare_verdict
compare_early Lax pair l r found doubt some a b s h =
    let is : pairings_true pair l r ≡ true = sym s.finds ∙ h in
    record {
      answers = sym (lax_true pair l r (sym (pairings_true_is pair l r) ∙ is));
      costs = omega (arith, s.costs, lax_allow_some pair l r (true_has_item pair l r is));
    }
compare_early Strict pair l r found doubt some a b s h = cc

-- all pairs were seen, and the right operand was asked
pub compare_all : (mode : Mode) (pair : PairTruth) (l r : Trace) (found doubt some faulty : Bool) (a b c : ℕ)
    → PairingsSeen (is_lax mode) pair l r found doubt some a b → is_lax mode && found ≡ false → Asked some r faulty b c
    → Decides (compare_verdict mode pair l r) (decided_truth found (doubt || faulty)) a c
unfolding compare_verdict
compare_all mode pair l r found doubt some faulty a b c s q k =
    record {
      answers = decided mode pair l r found (doubt || faulty) q (s.finds ∙ pairings_true_is pair l r)
          (ap (λ d. d || faulty) (s.doubts q) ∙ all_doubts pair l r some faulty (s.somes q) k.answers);
      costs = omega (arith, s.costs, k.costs, all_cost mode pair l r some (s.somes q));
    }

-- ---- one right item

one_true : (pair : PairTruth) (y : ItemValue) (l : Trace) → pairings_true pair l (only y) ≡ pairing_true (λ x. pair x y) l
one_true pair y stop = refl
one_true pair y (fail s) = refl
one_true pair y (visit l) = one_true pair y l
one_true pair y (give x l) = ap (λ b. b || pairings_true pair l (only y)) (or_false (is_true (pair x y))) ∙ ap (λ b. is_true (pair x y) || b) (one_true pair y l)

one_doubt : (pair : PairTruth) (y : ItemValue) (l : Trace) → pairings_doubt pair l (only y) ≡ pairing_doubt (λ x. pair x y) l
one_doubt pair y stop = refl
one_doubt pair y (fail s) = refl
one_doubt pair y (visit l) = one_doubt pair y l
one_doubt pair y (give x l) = ap (λ b. b || pairings_doubt pair l (only y)) (or_false (is_unknown (pair x y))) ∙ ap (λ b. is_unknown (pair x y) || b) (one_doubt pair y l)

no_matter : (b : Bool) (n : ℕ) → cond b n n ≡ n
no_matter true n = refl
no_matter false n = refl

none_before : (n : ℕ) → 0 + n ≡ n
none_before n = omega arith

one_cost : (early : Bool) (pair : PairTruth) (y : ItemValue) (l : Trace) → pairings_cost early pair l (only y) ≡ pairing_cost early (λ x. pair x y) l
one_cost early pair y stop = refl
one_cost early pair y (fail s) = refl
one_cost early pair y (visit l) = ap suc (one_cost early pair y l)
one_cost early pair y (give x l) =
    ap (λ n. n + cond (early && pairing_true (pair x) (only y)) 0 (pairings_cost early pair l (only y))) (no_matter (early && is_true (pair x y)) 0)
    ∙ none_before (cond (early && pairing_true (pair x) (only y)) 0 (pairings_cost early pair l (only y)))
    ∙ ap (λ b. cond (early && b) 0 (pairings_cost early pair l (only y))) (or_false (is_true (pair x y)))
    ∙ ap (λ n. cond (early && is_true (pair x y)) 0 n) (one_cost early pair y l)

-- a pairing beside one right item is all pairs
as_pairings : (early : Bool) (pair : PairTruth) (y : ItemValue) (l : Trace) (found doubt : Bool) (a b : ℕ)
    → PairingSeen early (λ x. pair x y) l found doubt a b → PairingsSeen early pair l (only y) found doubt (has_item l) a b
as_pairings early pair y l found doubt a b s = record {
  finds = s.finds ∙ sym (one_true pair y l);
  doubts = λ q. s.doubts q ∙ sym (one_doubt pair y l);
  somes = λ q. refl;
  costs = omega (arith, one_cost early pair y l, s.costs);
}

no_fault : (b : Bool) → false ≡ cond b false false
no_fault true = refl
no_fault false = refl

one_early : (mode : Mode) (pair : PairTruth) (y : ItemValue) (l : Trace) (found doubt : Bool) (a b : ℕ)
    → PairingSeen (is_lax mode) (λ x. pair x y) l found doubt a b → is_lax mode && found ≡ true → Decides (compare_verdict mode pair l (only y)) True a b
one_early mode pair y l found doubt a b s h = compare_early mode pair l (only y) found doubt (has_item l) a b (as_pairings (is_lax mode) pair y l found doubt a b s) h

one_all : (mode : Mode) (pair : PairTruth) (y : ItemValue) (l : Trace) (found doubt : Bool) (a b : ℕ)
    → PairingSeen (is_lax mode) (λ x. pair x y) l found doubt a b → is_lax mode && found ≡ false → Decides (compare_verdict mode pair l (only y)) (decided_truth found doubt) a b
one_all mode pair y l found doubt a b s q =
    let asked : Asked (has_item l) (only y) false b b = record { answers = no_fault (has_item l); costs = omega arith } in
    let all = compare_all mode pair l (only y) found doubt (has_item l) false a b b (as_pairings (is_lax mode) pair y l found doubt a b s) q asked in
    rw (or_false doubt) at all

one_decides : (mode : Mode) (pair : PairTruth) (y : ItemValue) (l : Trace) (found doubt : Bool) (a b : ℕ)
    → PairingSeen (is_lax mode) (λ x. pair x y) l found doubt a b → Decides (compare_verdict mode pair l (only y)) (pairing_truth (is_lax mode) found doubt) a b
one_decides mode pair y l found doubt a b s = by_halt (is_lax mode && found) refl
  where
    by_halt : (h : Bool) → is_lax mode && found ≡ h → Decides (compare_verdict mode pair l (only y)) (if h then True else decided_truth found doubt) a b
    by_halt true e = one_early mode pair y l found doubt a b s e
    by_halt false e = one_all mode pair y l found doubt a b s e

-- the same, as a comparison asks for it
pub right_decides : (mode : Mode) (pair : PairTruth) (y : ItemValue) (l r : Trace) (early found doubt : Bool) (truth : Truth) (a b : ℕ)
    → r ≡ only y → early ≡ is_lax mode → truth ≡ pairing_truth early found doubt → PairingSeen early (λ x. pair x y) l found doubt a b → Decides (compare_verdict mode pair l r) truth a b
right_decides mode pair y l r early found doubt truth a b is lax e s = rw (is, e, lax) (one_decides mode pair y l found doubt a b (rw lax at s))
