-- What is left of a run of elements, one element after another.
use Rattle.std.proofs.Common.{◌≡◌, ℕ, zero, suc, ◌-◌, ◌<◌, ◌≤◌, ◌∙◌, List, [], ◌∷◌, take, drop, length, map, Option, ap, arith}
use Rattle.std.proofs.Math.Numerals.{sub-one}
use Rattle.std.proofs.lemmas.List.{length-take-le, drop-map, take-map}
use Rattle.std.proofs.Math.Seq.{drop-nil, take-nil}
use Rattle.sj_json.specs.Tree.{Tree, NumberedChild}
use Rattle.sj_item.specs.Items.{node}
use Rattle.sj_step.specs.Trace.{Trace, stop, visit, give, after_visits}
use Rattle.sj_step.specs.Reach.{child_item, every, between}

abbrev pub run : ℕ → ℕ → List NumberedChild → Trace
run skip count cs = after_visits (length (take skip cs)) (every 1 (map child_item (take count (drop skip cs))))

pub run_nil : (skip count : ℕ) → run skip count [] ≡ stop
run_nil skip count = simp (take-nil, drop-nil)

pub run_skip : (skip count : ℕ) (c : NumberedChild) (cs : List NumberedChild) → 0 < skip → run skip count (c ∷ cs) ≡ visit (run (skip - 1) count cs)
run_skip zero count c cs some = absurd (omega arith)
run_skip (suc skip) count c cs some = simp sub-one

pub run_give : (skip count : ℕ) (c : NumberedChild) (cs : List NumberedChild) → skip ≤ 0 → 0 < count → run skip count (c ∷ cs) ≡ visit (give (node c.1 c.2) (run skip (count - 1) cs))
run_give zero zero c cs none some = absurd (omega arith)
run_give zero (suc count) c cs none some = simp sub-one
run_give (suc skip) count c cs none some = absurd (omega arith)

-- ---- a run from its start

pub run_between : (i j : ℕ) (cs : List NumberedChild) → i ≤ length cs → run i (j - i) cs ≡ between i j (map child_item cs)
run_between i j cs within =
    let skipped : length (take i cs) ≡ i = length-take-le i cs within in
    let given : map child_item (take (j - i) (drop i cs)) ≡ take (j - i) (drop i (map child_item cs)) = simp (drop-map, take-map) in
    ap (λ k. after_visits k (every 1 (map child_item (take (j - i) (drop i cs))))) skipped ∙ ap (λ xs. after_visits i (every 1 xs)) given
