-- A comparison of the items of two traces. It looks at the pairs of a left and a right item that stand before any fault.
use Rattle.std.specs.Prelude.{ℕ, suc, ◌+◌, ◌*◌, max, Bool, ◌||◌, if◌then◌else◌, List, [], ◌∷◌, Option, Some, None}
use Rattle.std.specs.List.{list_any}
use Rattle.sj_path_tree.specs.declared.parts.Mode.{Mode}
use Rattle.sj_path_tree.specs.declared.parts.Mode.TheVariants.{Lax, Strict}
use Rattle.sj_item.specs.Items.{ItemValue}
use Rattle.sj_item.specs.Truths.{truth_of}
use Rattle.sj_item.specs.declared.truth.Truth.{Truth}
use Rattle.sj_item.specs.declared.truth.Truth.TheVariants.{True, False, Unknown}
use Rattle.sj_step.specs.Trace.{Trace, items, count, visits, visits_before}
use Rattle.sj_cursor.specs.Verdicts.{Verdict, is_faulty}
use Rattle.sj_plain_path.specs.Truths.{is_true, is_unknown}

-- the truth of a pair of items
abbrev pub PairTruth : Type 0
PairTruth = ItemValue → ItemValue → Truth

-- some pair has such a truth
abbrev pub some_pair : (Truth → Bool) → PairTruth → List ItemValue → List ItemValue → Bool
some_pair test pair xs ys = list_any (λ x. list_any (λ y. test (pair x y)) ys) xs

abbrev pub has_true : PairTruth → Trace → Trace → Bool
has_true pair left right = some_pair is_true pair (items left) (items right)

-- there is a pair that does not compare, or an operand ends in a fault
abbrev pub has_doubt : PairTruth → Trace → Trace → Bool
has_doubt pair left right = is_faulty left || is_faulty right || some_pair is_unknown pair (items left) (items right)

-- in lax mode a true pair decides before any doubt, and in strict mode a doubt decides first
abbrev pub compare_truth : Mode → PairTruth → Trace → Trace → Truth
compare_truth Lax pair left right = if has_true pair left right then True else if has_doubt pair left right then Unknown else False
compare_truth Strict pair left right = if has_doubt pair left right then Unknown else truth_of (has_true pair left right)

-- ---- what a comparison may take

abbrev pub next_index : Option ℕ → Option ℕ
next_index None = None
next_index (Some i) = Some (suc i)

-- the index of the first item that passes a test
abbrev pub index_where : (ItemValue → Bool) → List ItemValue → Option ℕ
index_where test [] = None
index_where test (x ∷ xs) = if test x then Some 0 else next_index (index_where test xs)

-- one index more on the left
abbrev pub behind : Option (ℕ × ℕ) → Option (ℕ × ℕ)
behind None = None
behind (Some p) = Some (suc p.0, p.1)

abbrev pub here_or : Option ℕ → Option (ℕ × ℕ) → Option (ℕ × ℕ)
here_or None later = later
here_or (Some j) later = Some (0, j)

-- the indices of the first left item that has a true pair, and of the first right item that is true with it
abbrev pub first_true : PairTruth → List ItemValue → List ItemValue → Option (ℕ × ℕ)
first_true pair [] ys = None
first_true pair (x ∷ xs) ys = here_or (index_where (λ y. is_true (pair x y)) ys) (behind (first_true pair xs ys))

-- every left item with every right one; where there is no left item the right operand is asked too
abbrev pub all_pairs_allow : Trace → Trace → ℕ
all_pairs_allow left right = visits left + max 1 (count left) * visits right

-- up to the first true pair, where there is one
abbrev pub up_to : Option (ℕ × ℕ) → Trace → Trace → ℕ
up_to None left right = all_pairs_allow left right
up_to (Some p) left right = visits_before (suc p.0) left + p.0 * visits right + visits_before (suc p.1) right

abbrev pub compare_allow : Mode → PairTruth → Trace → Trace → ℕ
compare_allow Lax pair left right = up_to (first_true pair (items left) (items right)) left right
compare_allow Strict pair left right = all_pairs_allow left right

unfoldable pub compare_verdict : Mode → PairTruth → Trace → Trace → Verdict
compare_verdict mode pair left right = record { truth = compare_truth mode pair left right; allow = compare_allow mode pair left right }
