-- Giving the bytes of a line.
use Rattle.std.proofs.Common.{◌≡◌, ℕ, ◌+◌, ◌-◌, ◌≤◌, ◌<◌, zero, suc, List, [], ◌∷◌, ◌++◌, length, take, drop, refl, sym, ◌∙◌, ap, arith, append_assoc, length-drop}
use Rattle.std.proofs.lemmas.List.{take-append-drop, drop-drop, length-take, take-append-le}
use borrow.Rule.Slice.PartMut.{put_mid, post_of}
use Rattle.sj_generated.specs.Lines.{line, lines_from}

-- bytes of the line were moved
pub moved : (l rest buf : List ℕ) (at n : ℕ) → take n buf ≡ take n (drop at l) → drop at l ++ rest ≡ take n buf ++ (drop (at + n) l ++ rest)
moved l rest buf at n same =
    ap (λ (t : List ℕ). t ++ rest) (sym (take-append-drop n (drop at l)) ∙ ap (λ (t : List ℕ). take n (drop at l) ++ t) (drop-drop n at l))
    ∙ append_assoc (take n (drop at l)) (drop (at + n) l) rest ∙ ap (λ (t : List ℕ). t ++ (drop (at + n) l ++ rest)) (sym same)

all_dropped : (l : List ℕ) (at : ℕ) → length l ≤ at → drop at l ≡ []
all_dropped l at all = none (drop at l) (omega (arith, length-drop at l))
  where
    none : (t : List ℕ) → length t ≡ 0 → t ≡ []
    none [] is = refl
    none (x ∷ xs) is = absurd (omega (arith, is))

-- the next line was begun
pub begun : (l new : List ℕ) (at next left : ℕ) → at ≡ length l → 0 < left → new ≡ line next → drop at l ++ lines_from next left ≡ drop 0 new ++ lines_from (next + 1) (left - 1)
begun l new at next zero all some is = absurd (omega (arith, some))
begun l new at next (suc left) all some is =
    let fewer : suc left - 1 ≡ left = omega arith in
    ap (λ (t : List ℕ). t ++ lines_from next (suc left)) (all_dropped l at (omega (arith, all))) ∙ ap (λ (t : List ℕ). t ++ lines_from (next + 1) left) (sym is) ∙ ap (λ (k : ℕ). new ++ lines_from (next + 1) k) (sym fewer)

-- a front of what stands behind a list
take_past : (n : ℕ) (xs ys : List ℕ) → take (length xs + n) (xs ++ ys) ≡ xs ++ take n ys
take_past n [] ys = ap (λ (k : ℕ). take k ys) (omega arith)
take_past n (x ∷ xs) ys =
    let same : length (x ∷ xs) + n ≡ suc (length xs + n) = omega arith in
    ap (λ (k : ℕ). take k (x ∷ (xs ++ ys))) same ∙ ap (λ (t : List ℕ). x ∷ t) (take_past n xs ys)

-- bytes were put behind those of before
pub put_behind : (at n k : ℕ) (old piece : List ℕ) → at ≤ length old → n ≤ length piece → take (at + n) (put_mid at k old piece) ≡ take at old ++ take n piece
put_behind at n k old piece within fits =
    let front : length (take at old) ≡ at = omega (arith, length-take at old) in
    ap (λ (m : ℕ). take (m + n) (put_mid at k old piece)) (sym front) ∙ take_past n (take at old) (piece ++ post_of at k old)
    ∙ ap (λ (t : List ℕ). take at old ++ t) (take-append-le n piece (post_of at k old) fits)

-- more bytes were given
pub more_given : (at n k : ℕ) (old piece all left left' : List ℕ) → at ≤ length old → n ≤ length piece → all ≡ take at old ++ left → left ≡ take n piece ++ left' → all ≡ take (at + n) (put_mid at k old piece) ++ left'
more_given at n k old piece all left left' within fits so_far gave =
    so_far ∙ ap (λ (t : List ℕ). take at old ++ t) gave ∙ sym (append_assoc (take at old) (take n piece) left') ∙ ap (λ (t : List ℕ). t ++ left') (sym (put_behind at n k old piece within fits))
