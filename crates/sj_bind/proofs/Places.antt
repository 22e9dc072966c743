-- Paths at their numbers, and the parents that stand before them.
use Rattle.std.proofs.Common.{◌≡◌, ℕ, zero, suc, ◌+◌, ◌==◌, ◌<◌, ◌≤◌, Bool, true, false, if◌then◌else◌, nat_eq, List, [], ◌∷◌, ◌++◌, Some, length, ◌⊎◌, inl, inr, refl, sym, subst, ◌∙◌, arith}
use Rattle.std.proofs.lemmas.Bool.Decides.{nat_tests}
use Rattle.std.specs.List.{position_from}
use Rattle.sj_path_tree.specs.Tree.{Path}
use Rattle.sj_sql_grammar.specs.Tree.{Columns, Last, More, ColumnOf, Ordinality, Regular, Formatted, Existence, Nested}
use Rattle.sj_value.specs.Plans.{one_at}
use Rattle.sj_bind.specs.Flat.{TablePath, paths_in, paths_below}

-- ---- tests of numbers

pub apart : (k n : ℕ) → (k < n) ⊎ (n < k) → one_at k n ≡ 0
apart k n (inl h) = grind (arith, nat_tests)
apart k n (inr h) = grind (arith, nat_tests)

pub itself : (n : ℕ) → one_at n n ≡ 1
itself n = grind (arith, nat_tests)

pub turned : (k n : ℕ) → one_at k n ≡ (if n == k then 1 else 0)
turned k n = grind (arith, nat_tests)

-- ---- places

-- x is the path with the number k, where the first of the paths has the number `next`
unfoldable pub IsAt : ℕ → List TablePath → ℕ → TablePath → Type 0
IsAt next [] k x = ⊥
IsAt next (p ∷ ps) k x = ((k ≡ next) × (p ≡ x)) ⊎ IsAt (next + 1) ps k x

pub at_least : (next : ℕ) (ps : List TablePath) (k : ℕ) (x : TablePath) → IsAt next ps k x → next ≤ k
unfolding IsAt
at_least next [] k x h = absurd h
at_least next (p ∷ ps) k x (inl h) = let e = h.0 in omega arith
at_least next (p ∷ ps) k x (inr h) = let e = at_least (next + 1) ps k x h in omega arith

pub at_most : (next : ℕ) (ps : List TablePath) (k : ℕ) (x : TablePath) → IsAt next ps k x → k < next + length ps
unfolding IsAt
at_most next [] k x h = absurd h
at_most next (p ∷ ps) k x (inl h) = let e = h.0 in omega arith
at_most next (p ∷ ps) k x (inr h) = let e = at_most (next + 1) ps k x h in omega arith

-- each number has its path
pub path_at : (next : ℕ) (ps : List TablePath) (k : ℕ) → next ≤ k → k < next + length ps → (x : TablePath) × IsAt next ps k x
unfolding IsAt
path_at next [] k low high = absurd (omega arith)
path_at next (p ∷ ps) k low high = go (nat_eq k next) refl (λ h. path_at (next + 1) ps k h (omega arith))
  where
    go : (b : Bool) → nat_eq k next ≡ b → (next + 1 ≤ k → (x : TablePath) × IsAt (next + 1) ps k x) → (x : TablePath) × IsAt next (p ∷ ps) k x
    go true is f = let same : k ≡ next = grind (arith, nat_tests) in (p, inl (same, refl))
    go false is f = let past : next + 1 ≤ k = grind (arith, nat_tests) in let r = f past in (r.0, inr r.1)

-- a path that is found is there, and passes the test
pub found_at : (test : TablePath → Bool) (next : ℕ) (ps : List TablePath) (c : ℕ) → position_from test next ps ≡ Some c → (x : TablePath) × IsAt next ps c x × (test x ≡ true)
unfolding IsAt
found_at test next [] c e = cc
found_at test next (p ∷ ps) c e = go (test p) refl e (found_at test (next + 1) ps c)
  where
    go : (b : Bool) → test p ≡ b → (if b then Some next else position_from test (next + 1) ps) ≡ Some c
        → (position_from test (next + 1) ps ≡ Some c → (x : TablePath) × IsAt (next + 1) ps c x × (test x ≡ true)) → (x : TablePath) × IsAt next (p ∷ ps) c x × (test x ≡ true)
    go true is f others = let same : c ≡ next = cc in (p, inl (same, refl), is)
    go false is f others = let r = others f in (r.0, inr r.1, r.2)

-- ---- parents

-- each path is nested in one that stands before it
pub AreNested : ℕ → List TablePath → Type 0
AreNested next [] = Unit {0}
AreNested next (p ∷ ps) = ((m : ℕ) × (p.parent ≡ Some m) × (m < next)) × AreNested (next + 1) ps

pub parent_at : (next : ℕ) (ps : List TablePath) (k : ℕ) (x : TablePath) → AreNested next ps → IsAt next ps k x → (m : ℕ) × (x.parent ≡ Some m) × (m < k)
unfolding IsAt AreNested
parent_at next [] k x nested h = absurd h
parent_at next (p ∷ ps) k x nested (inl h) = subst (λ n. (m : ℕ) × (x.parent ≡ Some m) × (m < n)) (sym h.0) (subst (λ (y : TablePath). (m : ℕ) × (y.parent ≡ Some m) × (m < next)) h.1 nested.0)
parent_at next (p ∷ ps) k x nested (inr h) = parent_at (next + 1) ps k x nested.1 h

nested_both : (next : ℕ) (xs ys : List TablePath) → AreNested next xs → AreNested (next + length xs) ys → AreNested next (xs ++ ys)
unfolding AreNested
nested_both next [] ys h k = let e : next + 0 ≡ next = omega arith in subst (λ n. AreNested n ys) e k
nested_both next (x ∷ xs) ys h k = let e : next + suc (length xs) ≡ next + 1 + length xs = omega arith in (h.0, nested_both (next + 1) xs ys h.1 (subst (λ n. AreNested n ys) e k))

mutual
  unfolding AreNested

  nested_in : (parent next : ℕ) (column : ColumnOf Path) → parent < next → AreNested next (paths_in parent next column)
  nested_in parent next (Ordinality name) h = tt
  nested_in parent next (Regular column) h = tt
  nested_in parent next (Formatted column) h = tt
  nested_in parent next (Existence name path _) h = tt
  nested_in parent next (Nested path name columns) h = ((parent, refl, h), nested_below next (next + 1) columns (omega arith))

  pub nested_below : (parent next : ℕ) (columns : Columns Path) → parent < next → AreNested next (paths_below parent next columns)
  nested_below parent next (Last column) h = nested_in parent next column h
  nested_below parent next (More column others) h =
      let n = next + length (paths_in parent next column) in
      nested_both next (paths_in parent next column) (paths_below parent n others) (nested_in parent next column h) (nested_below parent n others (omega arith))

-- what is 1 of the row path, and of each other as of its parent, is 1 of all
pub all_one : (f : ℕ → ℕ) (n : ℕ) → f 0 ≡ 1 → ((k : ℕ) → 1 ≤ k → k < n → (m : ℕ) × (m < k) × (f k ≡ f m)) → (bound k : ℕ) → k < bound → k < n → f k ≡ 1
all_one f n first step zero k below few = absurd (omega arith)
all_one f n first step (suc bound) zero below few = first
all_one f n first step (suc bound) (suc k) below few =
    let s = step (suc k) (omega arith) few in
    let less = s.1 in s.2 ∙ all_one f n first step bound s.0 (omega arith) (omega arith)
