-- Digits that are written from the last to the first over TABs, of which some stay, and the front of a window that has them.
use Rattle.std.proofs.Common.{◌≡◌, ℕ, ◌+◌, ◌-◌, ◌<◌, ◌≤◌, List, [], ◌∷◌, ◌++◌, length, take, drop, get_or, set, replicate, decimal, codes, sym, ap, ◌∙◌, arith, append_assoc}
use Rattle.std.proofs.Math.Seq.{take-append_seam}
use Rattle.std.proofs.lemmas.List.{take-take, length-append, get_or-take, get_or-set_other, get_or-replicate, drop_more}
use Rattle.sj_rows.specs.RowHead.{IsHead, lettered}
use Rattle.sj_rows.specs.RowText.{row_head}
use Rattle.sj_rows.specs.declared.row.HeadText.{HeadText}

-- the room of a head: TABs, and the letter in the middle
abbrev pub room : ℕ → List ℕ
room letter = set (replicate 66 9) 32 letter

-- a byte that was not written over is a TAB where it was one
tab_stays : (new old : List ℕ) (at k : ℕ) → take at new ≡ take at old → k < at → get_or old k 0 ≡ 9 → get_or new k 0 ≡ 9
tab_stays new old at k kept within tab =
    sym (get_or-take at new k 0 within) ∙ ap (λ (l : List ℕ). get_or l k 0) kept ∙ get_or-take at old k 0 within ∙ tab

tab_before : (new : List ℕ) (at k letter : ℕ) → take at new ≡ take at (room letter) → k < at → at ≤ 32 → get_or new k 0 ≡ 9
tab_before new at k letter kept within small =
    tab_stays new (room letter) at k kept within (get_or-set_other (replicate 66 9) 32 k letter 0 (omega arith) ∙ get_or-replicate 66 k 9 0 (omega arith))

-- digits that were written at a place, and the TAB before them
behind_tab : (new digits : List ℕ) (at : ℕ) → get_or new (at - 1) 0 ≡ 9 → 0 < at → at ≤ length new → drop at new ≡ digits → drop (at - 1) new ≡ 9 ∷ digits
behind_tab new digits at tab some within written =
    let k = at - 1 in
    let next : k + 1 ≡ at = omega arith in
    drop_more new k 0 (omega arith) ∙ ap (λ (b : ℕ). b ∷ drop (k + 1) new) tab ∙ ap (λ (n : ℕ). 9 ∷ drop n new) next ∙ ap (λ (l : List ℕ). 9 ∷ l) written

-- the statement's number was written before the letter and its TAB, and the line's number before the TAB that precedes it
pub head_is : (new whole : List ℕ) (second first line statement letter : ℕ) → take second new ≡ take second (room letter) → drop second new ≡ decimal statement ++ drop 31 (room letter)
    → 0 < second → second ≤ 31 → second ≤ length new → drop first whole ≡ decimal line ++ drop (second - 1) new
    → drop first whole ≡ lettered line statement letter ++ replicate 33 9
head_is new whole second first line statement letter kept written some small within last =
    let mark : List ℕ = 9 ∷ letter ∷ [] in
    let rest : List ℕ = replicate 33 9 in
    last ∙ ap (λ (l : List ℕ). decimal line ++ l)
    (behind_tab new (decimal statement ++ drop 31 (room letter)) second (tab_before new second (second - 1) letter kept (omega arith) (omega arith)) some within written)
    ∙ sym (append_assoc (decimal line) (codes "\t" ++ decimal statement) (mark ++ rest)) ∙ sym (append_assoc (row_head line statement) mark rest)

-- a whole number was written at a place
pub whole_is : (new : List ℕ) (at whole : ℕ) → take at new ≡ take at (replicate 48 9) → drop at new ≡ decimal whole ++ drop 24 (replicate 48 9) → 0 < at → at ≤ 24 → at ≤ length new
    → drop (at - 1) new ≡ (codes "\t" ++ decimal whole) ++ replicate 24 9
whole_is new at whole kept written some small within =
    behind_tab new (decimal whole ++ drop 24 (replicate 48 9)) at (tab_stays new (replicate 48 9) at (at - 1) kept (omega arith) (get_or-replicate 48 (at - 1) 9 0 (omega arith))) some within written

-- the first bytes of a window are those that it begins with
pub front_is : (all text rest : List ℕ) (window count : ℕ) → all ≡ text ++ rest → length text ≡ count → count ≤ window → take count (take window all) ≡ text
front_is all text rest window count is long within =
    take-take count window all within ∙ ap (take count) is ∙ ap (λ (n : ℕ). take n (text ++ rest)) (sym long) ∙ take-append_seam text rest

-- as long as the two numbers and three bytes
pub length_head : (line statement letter : ℕ) → length (lettered line statement letter) ≡ length (decimal line) + (length (decimal statement) + 3)
length_head line statement letter =
    let lengths = length-append (row_head line statement) (9 ∷ letter ∷ []) in
    omega (arith, lengths, length-append (decimal line) (codes "\t" ++ decimal statement), length-append (codes "\t") (decimal statement))

-- the text of a head ends at 33
pub text_of : (text : HeadText) (line statement letter : ℕ) → IsHead text line statement letter → take (33 - text.first) (drop text.first text.bytes) ≡ lettered line statement letter
text_of text line statement letter is =
    let long : 33 - text.first ≡ length (lettered line statement letter) = omega (arith, is.ends) in
    ap (take (33 - text.first)) is.written ∙ ap (λ (n : ℕ). take n (lettered line statement letter ++ replicate 33 9)) long
    ∙ take-append_seam (lettered line statement letter) (replicate 33 9)
