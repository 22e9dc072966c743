-- A text in which each mark is written twice, by its first mark.
use Rattle.std.proofs.Common.{◌≡◌, ℕ, zero, suc, ◌+◌, ◌<◌, true, List, [], ◌∷◌, ◌++◌, length, take, drop, slice_index, refl, sym, ap, ap₂, subst, ◌∙◌, add-one, arith}
use Rattle.std.specs.Prelude.{◌==◌}
use Rattle.std.proofs.lemmas.Bool.{cond-true, cond-false, false_from_ne_true, eqb-true}
use Rattle.memchr.specs.Find.{NoneBefore, Nowhere, Passes, is_byte}
use Rattle.sj_sql_text.specs.Pieces.{doubled}

without_mark : (mark : ℕ) (text : List ℕ) → ((k : ℕ) → k < length text → ¬ (slice_index text k == mark ≡ true)) → doubled mark text ≡ text
without_mark mark [] none = refl
without_mark mark (b ∷ bs) none =
    cond-false (b == mark) _ _ (false_from_ne_true (b == mark) (none 0 (omega arith))) ∙ ap (λ l. b ∷ l) (without_mark mark bs (λ k h. none (suc k) (omega arith)))

up_to_mark : (mark : ℕ) (text : List ℕ) (k : ℕ) → k < length text → ((j : ℕ) → j < k → ¬ (slice_index text j == mark ≡ true)) → slice_index text k == mark ≡ true
    → doubled mark text ≡ take (suc k) text ++ mark ∷ doubled mark (drop (suc k) text)
up_to_mark mark [] k h before here = absurd (omega arith)
up_to_mark mark (b ∷ bs) zero h before here = cond-true (b == mark) _ _ here ∙ ap (λ x. x ∷ mark ∷ doubled mark bs) (sym (eqb-true b mark here))
up_to_mark mark (b ∷ bs) (suc k) h before here =
    cond-false (b == mark) _ _ (false_from_ne_true (b == mark) (before 0 (omega arith))) ∙ ap (λ l. b ∷ l) (up_to_mark mark bs k (omega arith) (λ j l. before (suc j) (omega arith)) here)

-- no mark stands there
pub stands_as_it_is : (mark b : ℕ) (text : List ℕ) → b ≡ mark → Nowhere (Passes (is_byte b) text) 0 (length text) → doubled mark text ≡ text
stands_as_it_is mark b text same none = subst (λ m. doubled m text ≡ text) same (without_mark b text (λ k h. none k (omega arith) h))

-- the first mark stands at place k
pub splits_behind : (mark b : ℕ) (text front behind : List ℕ) (k : ℕ) → b ≡ mark → NoneBefore (Passes (is_byte b) text) 0 (length text) k → Passes (is_byte b) text k
    → front ≡ take (k + 1) text → behind ≡ drop (k + 1) text → doubled mark text ≡ front ++ mark ∷ doubled mark behind
splits_behind mark b text front behind k same first here is_front is_behind =
    subst (λ m. doubled m text ≡ front ++ m ∷ doubled m behind) same
    (up_to_mark b text k first.high (λ j h. first.before j (omega arith) h) here
    ∙ ap₂ (λ x y. x ++ b ∷ doubled b y) (ap (λ n. take n text) (sym (add-one k)) ∙ sym is_front) (ap (λ n. drop n text) (sym (add-one k)) ∙ sym is_behind))
