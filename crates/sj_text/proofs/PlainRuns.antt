-- A text that is written byte by byte, and of which a run of bytes is written as it is.
use Rattle.std.proofs.Common.{◌≡◌, ℕ, List, ◌∷◌, ◌++◌, take, drop, sym, ap, ◌∙◌, subst, take-append-drop, length, length-drop, arith, ◌-◌}
use Rattle.std.proofs.lemmas.List.{take_all}
use Rattle.std.proofs.lemmas.Grind.{flat_map-append}
use Rattle.std.specs.List.{flat_map}
use Rattle.sj_text.proofs.Appends.{Appending, grows}

-- all that follows n elements
rest_of : (bs : List ℕ) (n : ℕ) → take (length bs - n) (drop n bs) ≡ drop n bs
rest_of bs n = take_all (length bs - n) (drop n bs) (omega (arith, length-drop n bs))

-- each byte is written in this way
module _ (written : ℕ → List ℕ) where
  -- after n bytes that are written as they are
  written_after : (bs : List ℕ) (n : ℕ) → flat_map written (take n bs) ≡ take n bs → flat_map written bs ≡ take n bs ++ flat_map written (drop n bs)
  written_after bs n plain =
      ap (flat_map written) (sym (take-append-drop n bs)) ∙ flat_map-append written (take n bs) (drop n bs) ∙ ap (λ l. l ++ flat_map written (drop n bs)) plain

  -- the run comes, and then a byte that is written otherwise is next
  pub after_run : (old text new bs : List ℕ) (n b : ℕ) (after later : List ℕ) → Appending old text new (flat_map written bs) → flat_map written (take n bs) ≡ take n bs
      → later ≡ new ++ take n bs → take (length bs - n) (drop n bs) ≡ b ∷ after → Appending old text later (written b ++ flat_map written after)
  after_run old text new bs n b after later a plain comes next =
      rw comes (subst (λ l. Appending old text (new ++ take n bs) (flat_map written l)) (sym (rest_of bs n) ∙ next)
      (grows old text new (take n bs) (flat_map written (drop n bs)) (subst (Appending old text new) (written_after bs n plain) a)))
