-- Going through the pairs finds what a comparison is, within what it may take.
use Rattle.std.proofs.Common.{◌≡◌, ℕ, suc, ◌+◌, ◌*◌, ◌<◌, max, List, [], ◌∷◌, Bool, true, false, cond, ◌||◌, Option, Some, None, ap, sym, ◌∙◌, refl, arith}
use Rattle.std.specs.List.{list_any}
use Rattle.sj_path_tree.specs.declared.parts.Mode.TheVariants.{Lax, Strict}
use Rattle.sj_item.specs.Items.{ItemValue}
use Rattle.sj_step.specs.Trace.{Trace, stop, fail, visit, give, items, count, visits, visits_before}
use Rattle.sj_cursor.specs.Verdicts.{is_faulty}
use Rattle.sj_plain_path.specs.Truths.{is_unknown, is_true}
use Rattle.sj_cursor.specs.Comparisons.{PairTruth, some_pair, has_true, has_doubt, next_index, index_where, behind, here_or, first_true, up_to, compare_allow}
use Rattle.sj_plain_path.specs.Pairings.{pairing_true, pairing_doubt, pairing_cost}
use Rattle.sj_cursor.specs.Pairings.{pairings_true, pairings_doubt, pairings_cost}

-- ---- truth

pub pairing_true_is : (pair : PairTruth) (x : ItemValue) (r : Trace) → pairing_true (pair x) r ≡ list_any (λ y. is_true (pair x y)) (items r)
pairing_true_is pair x stop = refl
pairing_true_is pair x (fail s) = refl
pairing_true_is pair x (visit r) = pairing_true_is pair x r
pairing_true_is pair x (give y r) = ap (λ b. is_true (pair x y) || b) (pairing_true_is pair x r)

pub pairings_true_is : (pair : PairTruth) (l r : Trace) → pairings_true pair l r ≡ has_true pair l r
pairings_true_is pair stop r = refl
pairings_true_is pair (fail s) r = refl
pairings_true_is pair (visit l) r = pairings_true_is pair l r
pairings_true_is pair (give x l) r = ap (λ b. b || pairings_true pair l r) (pairing_true_is pair x r) ∙ ap (λ b. list_any (λ y. is_true (pair x y)) (items r) || b) (pairings_true_is pair l r)

-- ---- doubt

or_turned : (a b c : Bool) → a || (b || c) ≡ b || (a || c)
or_turned true true c = refl
or_turned true false c = refl
or_turned false true c = refl
or_turned false false c = refl

pub pairing_doubt_is : (pair : PairTruth) (x : ItemValue) (r : Trace) → pairing_doubt (pair x) r ≡ is_faulty r || list_any (λ y. is_unknown (pair x y)) (items r)
pairing_doubt_is pair x stop = refl
pairing_doubt_is pair x (fail s) = refl
pairing_doubt_is pair x (visit r) = pairing_doubt_is pair x r
pairing_doubt_is pair x (give y r) = ap (λ b. is_unknown (pair x y) || b) (pairing_doubt_is pair x r) ∙ or_turned (is_unknown (pair x y)) (is_faulty r) (list_any (λ z. is_unknown (pair x z)) (items r))

-- one more left item x: f, g and d are the doubts of the right trace, of the left one, and of the items before
one_more_doubt : (f u d g v : Bool) → d || f ≡ (g || f) || v → ((f || u) || d) || f ≡ (g || f) || (u || v)
one_more_doubt true u d true v e = refl
one_more_doubt true u d false v e = refl
one_more_doubt false true d true v e = refl
one_more_doubt false true d false v e = refl
one_more_doubt false false d g v e = e

no_item_doubt : (f : Bool) → f ≡ f || false
no_item_doubt true = refl
no_item_doubt false = refl

pub pairings_doubt_is : (pair : PairTruth) (l r : Trace) → pairings_doubt pair l r || is_faulty r ≡ has_doubt pair l r
pairings_doubt_is pair stop r = no_item_doubt (is_faulty r)
pairings_doubt_is pair (fail s) r = refl
pairings_doubt_is pair (visit l) r = pairings_doubt_is pair l r
pairings_doubt_is pair (give x l) r =
    ap (λ b. (b || pairings_doubt pair l r) || is_faulty r) (pairing_doubt_is pair x r)
    ∙ one_more_doubt (is_faulty r) (list_any (λ y. is_unknown (pair x y)) (items r)) (pairings_doubt pair l r) (is_faulty l) (some_pair is_unknown pair (items l) (items r)) (pairings_doubt_is pair l r)

-- ---- what it takes to go through all pairs

pub pairing_cost_all : (pair : PairTruth) (x : ItemValue) (r : Trace) → pairing_cost false (pair x) r ≡ visits r
pairing_cost_all pair x stop = refl
pairing_cost_all pair x (fail s) = refl
pairing_cost_all pair x (visit r) = ap suc (pairing_cost_all pair x r)
pairing_cost_all pair x (give y r) = pairing_cost_all pair x r

pub pairings_cost_all : (pair : PairTruth) (l r : Trace) → pairings_cost false pair l r ≡ visits l + count l * visits r
pairings_cost_all pair stop r = omega arith
pairings_cost_all pair (fail s) r = omega arith
pairings_cost_all pair (visit l) r = omega (arith, pairings_cost_all pair l r)
pairings_cost_all pair (give x l) r = omega (arith, pairing_cost_all pair x r, pairings_cost_all pair l r)

-- ---- what it takes to go on to the first true pair

-- to the index of a true right item, or to the end
abbrev pub pairing_to : Option ℕ → Trace → ℕ
pairing_to None r = visits r
pairing_to (Some j) r = visits_before (suc j) r

-- to the indices of the first true pair, or to the end of all pairs of a left trace that has items
abbrev pub pairings_to : Option (ℕ × ℕ) → Trace → Trace → ℕ
pairings_to None l r = visits l + count l * visits r
pairings_to (Some p) l r = visits_before (suc p.0) l + p.0 * visits r + visits_before (suc p.1) r

pairing_to_visit : (o : Option ℕ) (r : Trace) → suc (pairing_to o r) ≡ pairing_to o (visit r)
pairing_to_visit None r = refl
pairing_to_visit (Some j) r = refl

pairing_to_give : (o : Option ℕ) (y : ItemValue) (r : Trace) → pairing_to o r ≡ pairing_to (next_index o) (give y r)
pairing_to_give None y r = refl
pairing_to_give (Some j) y r = refl

pub pairing_cost_is : (pair : PairTruth) (x : ItemValue) (r : Trace) → pairing_cost true (pair x) r ≡ pairing_to (index_where (λ y. is_true (pair x y)) (items r)) r
pairing_cost_is pair x stop = refl
pairing_cost_is pair x (fail s) = refl
pairing_cost_is pair x (visit r) = ap suc (pairing_cost_is pair x r) ∙ pairing_to_visit (index_where (λ y. is_true (pair x y)) (items r)) r
pairing_cost_is pair x (give y r) =
    let o : Option ℕ = index_where (λ z. is_true (pair x z)) (items r) in
    elim (is_true (pair x y)) as (λ b. cond b 0 (pairing_cost true (pair x) r) ≡ pairing_to (cond b (Some 0) (next_index o)) (give y r))
    [ true ↦ refl | false ↦ pairing_cost_is pair x r ∙ pairing_to_give o y r ]

abbrev is_found : Option ℕ → Bool
is_found None = false
is_found (Some j) = true

is_found_next : (o : Option ℕ) → is_found o ≡ is_found (next_index o)
is_found_next None = refl
is_found_next (Some j) = refl

found_where : (p : ItemValue → Bool) (xs : List ItemValue) → list_any p xs ≡ is_found (index_where p xs)
found_where p [] = refl
found_where p (x ∷ xs) =
    elim (p x) as (λ b. b || list_any p xs ≡ is_found (cond b (Some 0) (next_index (index_where p xs))))
    [ true ↦ refl | false ↦ found_where p xs ∙ is_found_next (index_where p xs) ]

pairings_to_visit : (f : Option (ℕ × ℕ)) (l r : Trace) → suc (pairings_to f l r) ≡ pairings_to f (visit l) r
pairings_to_visit None l r = omega arith
pairings_to_visit (Some p) l r = omega arith

pairings_to_give : (o : Option ℕ) (f : Option (ℕ × ℕ)) (x : ItemValue) (l r : Trace) → pairing_to o r + cond (is_found o) 0 (pairings_to f l r) ≡ pairings_to (here_or o (behind f)) (give x l) r
pairings_to_give None None x l r = omega arith
pairings_to_give None (Some p) x l r = omega arith
pairings_to_give (Some j) f x l r = omega arith

pub pairings_cost_is : (pair : PairTruth) (l r : Trace) → pairings_cost true pair l r ≡ pairings_to (first_true pair (items l) (items r)) l r
pairings_cost_is pair stop r = omega arith
pairings_cost_is pair (fail s) r = omega arith
pairings_cost_is pair (visit l) r = ap suc (pairings_cost_is pair l r) ∙ pairings_to_visit (first_true pair (items l) (items r)) l r
pairings_cost_is pair (give x l) r =
    let o : Option ℕ = index_where (λ y. is_true (pair x y)) (items r) in
    let f : Option (ℕ × ℕ) = first_true pair (items l) (items r) in
    ap (λ n. n + cond (pairing_true (pair x) r) 0 (pairings_cost true pair l r)) (pairing_cost_is pair x r)
    ∙ ap (λ b. pairing_to o r + cond b 0 (pairings_cost true pair l r)) (pairing_true_is pair x r ∙ found_where (λ y. is_true (pair x y)) (items r))
    ∙ ap (λ n. pairing_to o r + cond (is_found o) 0 n) (pairings_cost_is pair l r)
    ∙ pairings_to_give o f x l r

-- ---- the allowance of a comparison

pairings_to_some : (f : Option (ℕ × ℕ)) (l r : Trace) → 0 < count l → pairings_to f l r ≡ up_to f l r
pairings_to_some None l r some = let most : max 1 (count l) ≡ count l = omega arith in ap (λ n. visits l + n * visits r) (sym most)
pairings_to_some (Some p) l r some = refl

pub lax_allow_some : (pair : PairTruth) (l r : Trace) → 0 < count l → compare_allow Lax pair l r ≡ pairings_cost true pair l r
lax_allow_some pair l r some = sym (pairings_to_some (first_true pair (items l) (items r)) l r some) ∙ sym (pairings_cost_is pair l r)

items_none : (l : Trace) → count l ≡ 0 → items l ≡ []
items_none stop e = refl
items_none (fail s) e = refl
items_none (visit l) e = items_none l e
items_none (give x l) e = cc

-- where there is no left item the right operand is asked once
pub lax_allow_none : (pair : PairTruth) (l r : Trace) → count l ≡ 0 → compare_allow Lax pair l r ≡ visits l + visits r
lax_allow_none pair l r none =
    ap (λ xs. up_to (first_true pair xs (items r)) l r) (items_none l none) ∙ ap (λ n. visits l + max 1 n * visits r) none ∙ omega arith

pub strict_allow_some : (pair : PairTruth) (l r : Trace) → 0 < count l → compare_allow Strict pair l r ≡ pairings_cost false pair l r
strict_allow_some pair l r some =
    let most : max 1 (count l) ≡ count l = omega arith in
    ap (λ n. visits l + n * visits r) most ∙ sym (pairings_cost_all pair l r)

pub strict_allow_none : (pair : PairTruth) (l r : Trace) → count l ≡ 0 → compare_allow Strict pair l r ≡ visits l + visits r
strict_allow_none pair l r none = ap (λ n. visits l + max 1 n * visits r) none ∙ omega arith
