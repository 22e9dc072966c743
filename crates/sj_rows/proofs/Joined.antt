-- The lines of bytes are what they should be: no line has an LF, and each with its LF, and the open part behind them, they are the bytes again.
use Rattle.std.proofs.Common.{◌≡◌, ◌≢◌, ℕ, zero, suc, ◌<◌, length, arith, slice_index, slice_index_or, List, [], ◌∷◌, ◌++◌, sym, ◌∙◌, ap, inl, inr, append_assoc}
use Rattle.std.specs.Prelude.{All}
use Rattle.std.proofs.lemmas.List.{append-nil}
use Rattle.std.proofs.lemmas.Bool.{cases_eq}
use Rattle.sj_rows.specs.Lines.{whole_from, open_from, whole_lines, open_part, with_feeds}
use Rattle.sj_rows.specs.HeldLines.{HasNoFeed}
use Rattle.sj_rows.proofs.Splits.{whole_feed, whole_other, open_feed, open_other}

joined_from : (o xs : List ℕ) → with_feeds (whole_from o xs) ++ open_from o xs ≡ o ++ xs
joined_from o [] = sym (append-nil o)
joined_from o (x ∷ xs) = elim (cases_eq x 10) [
  | inl is ↦ ap (λ (l : List (List ℕ)). with_feeds l ++ open_from o (x ∷ xs)) (whole_feed o x xs is)
      ∙ ap (λ (l : List ℕ). (o ++ 10 ∷ with_feeds (whole_from [] xs)) ++ l) (open_feed o x xs is)
      ∙ append_assoc o (10 ∷ with_feeds (whole_from [] xs)) (open_from [] xs)
      ∙ ap (λ (l : List ℕ). o ++ 10 ∷ l) (joined_from [] xs)
      ∙ ap (λ (y : ℕ). o ++ y ∷ xs) (sym is)
  | inr ne ↦ ap (λ (l : List (List ℕ)). with_feeds l ++ open_from o (x ∷ xs)) (whole_other o x xs ne)
      ∙ ap (λ (l : List ℕ). with_feeds (whole_from (o ++ x ∷ []) xs) ++ l) (open_other o x xs ne)
      ∙ joined_from (o ++ x ∷ []) xs
      ∙ append_assoc o (x ∷ []) xs
]

pub lines-joined : (bytes : List ℕ) → with_feeds (whole_lines bytes) ++ open_part bytes ≡ bytes
lines-joined bytes = joined_from [] bytes

-- this line has no LF
abbrev pub IsFree : List ℕ → Type 0
IsFree line = HasNoFeed line (length line)

push_free : (o : List ℕ) (x : ℕ) → x ≢ 10 → IsFree o → (k : ℕ) → k < length (o ++ x ∷ []) → slice_index (o ++ x ∷ []) k ≢ 10
push_free [] x ne none zero below = ne
push_free [] x ne none (suc k) below = absurd (omega (arith, below))
push_free (y ∷ o) x ne none zero below = none 0 (omega arith)
push_free (y ∷ o) x ne none (suc k) below = push_free o x ne (λ i less. none (suc i) (omega (arith, less))) k (omega (arith, below))

first_free : (o : List ℕ) (rest : List (List ℕ)) → IsFree o → All IsFree rest → (k : ℕ) (d : List ℕ) → k < length (o ∷ rest) → IsFree (slice_index_or (o ∷ rest) k d)
first_free o rest none all zero d below = none
first_free o rest none all (suc k) d below = all k d (omega (arith, below))

free_from : (o xs : List ℕ) → IsFree o → All IsFree (whole_from o xs)
free_from o [] none = λ k d below. absurd (omega (arith, below))
free_from o (x ∷ xs) none = elim (cases_eq x 10) [
  | inl is ↦ rw (whole_feed o x xs is) (first_free o (whole_from [] xs) none (free_from [] xs (λ k below. absurd (omega (arith, below)))))
  | inr ne ↦ rw (whole_other o x xs ne) (free_from (o ++ x ∷ []) xs (push_free o x ne none))
]

pub lines-free : (bytes : List ℕ) → All IsFree (whole_lines bytes)
lines-free bytes = free_from [] bytes (λ k below. absurd (omega (arith, below)))
