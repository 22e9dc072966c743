-- The bytes at the front of a text that pass a test.
use Rattle.std.proofs.Common.{◌≡◌, ℕ, zero, suc, ◌+◌, ◌<◌, Bool, true, false, cond, List, [], ◌∷◌, ◌++◌, length, get_or, take, refl, sym, ap, subst, ◌∙◌, arith}
use Rattle.std.specs.List.{prefix_len}
use Rattle.std.proofs.lemmas.List.Sums.{prefix_len-le-length, prefix_len_passes}
use Rattle.std.specs.Str.{IsUtf8, IsCharBoundary}
use Rattle.std.proofs.lemmas.Str.{IsCharBoundary-start, IsCharBoundary-after_ascii}
use Rattle.sj_path_token.specs.Words as w
use Rattle.sj_path_token.specs.Words.{AllPass}

pub run_goes_on : (test : ℕ → Bool) (b : ℕ) (bs : List ℕ) → test b ≡ true → prefix_len test (b ∷ bs) ≡ suc (prefix_len test bs)
run_goes_on test b bs h = ap (λ t. cond t (1 + prefix_len test bs) 0) h ∙ omega arith

pub run_ends : (test : ℕ → Bool) (b : ℕ) (bs : List ℕ) → test b ≡ false → prefix_len test (b ∷ bs) ≡ 0
run_ends test b bs h = ap (λ t. cond t (1 + prefix_len test bs) 0) h

-- what stands before the end of the run passes
pub run_passes : (test : ℕ → Bool) (bs : List ℕ) → AllPass test (take (prefix_len test bs) bs)
run_passes test [] = w.none
run_passes test (b ∷ bs) = go (test b) refl (run_passes test bs)
  where
    go : (t : Bool) → test b ≡ t → AllPass test (take (prefix_len test bs) bs) → AllPass test (take (prefix_len test (b ∷ bs)) (b ∷ bs))
    go true h p = subst (λ n. AllPass test (take n (b ∷ bs))) (sym (run_goes_on test b bs h)) (w.more h p)
    go false h p = subst (λ n. AllPass test (take n (b ∷ bs))) (sym (run_ends test b bs h)) w.none

-- what passes is in the run
pub run_longer : {test : ℕ → Bool} {front : List ℕ} → AllPass test front → (after : List ℕ) → prefix_len test (front ++ after) ≡ length front + prefix_len test after
run_longer w.none after = omega arith
run_longer {test} (w.more {b = b} {bs = bs} h p) after =
    let e = run_longer p after in
    run_goes_on test b (bs ++ after) h ∙ omega arith

-- a run of ASCII bytes ends where a text may be cut
pub run_boundary : (test : ℕ → Bool) (bs : List ℕ) → ((b : ℕ) → test b ≡ true → b < 128) → IsUtf8 bs → IsCharBoundary bs (prefix_len test bs)
run_boundary test bs ascii text = go (prefix_len test bs) refl
  where
    go : (n : ℕ) → prefix_len test bs ≡ n → IsCharBoundary bs n
    go zero e = IsCharBoundary-start bs text
    go (suc n) e =
        let below = prefix_len-le-length test bs in
        subst (IsCharBoundary bs) {x = n + 1} {y = suc n} (omega arith)
        (IsCharBoundary-after_ascii bs n text (omega arith) (ascii (get_or bs n 0) (prefix_len_passes test bs n 0 (omega arith))))
