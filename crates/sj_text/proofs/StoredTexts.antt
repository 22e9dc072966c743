-- Stored texts in their windows.
use Rattle.std.proofs.Common.{◌≡◌, ℕ, suc, ◌+◌, ◌<◌, ◌≤◌, Bool, true, false, not, List, [], ◌∷◌, ◌++◌, length, take, get_or, map, refl, sym, ap, ◌∙◌, arith, append_assoc}
use Rattle.std.proofs.lemmas.List.{take-take, take_more, get_or-take}
use Rattle.std.proofs.lemmas.List.Sums.{prefix_len_passes}
use Rattle.std.proofs.lemmas.Simd.{get_or-chunk, length-chunk, trailing_mask_l}
use Rattle.sj_base.specs.ByteClasses.{is_plain}
use Rattle.sj_json.specs.Printing.{printed_string}
use Rattle.sj_doc.specs.StoredTexts.{IsWindow}
use Rattle.sj_text.specs.Windows.{StandsQuoted, StandsAsKey}
use Rattle.sj_text.proofs.Windows.{all_plain, printed_as_it_stands}
use lib.Lanes.{chunk, mask_l}
use lib.Count.{count_trailing_zeros}

twice : (b : Bool) → not (not b) ≡ true → b ≡ true
twice true h = refl
twice false h = h

-- the first byte that may not stand for itself is the one behind the text, and a quotation mark
pub stands : (text window : List ℕ) → IsWindow text window → length text + 2 ≤ 16 → 0 < mask_l (map (λ (x : ℕ). not (is_plain x)) (chunk 0 16 window))
    → count_trailing_zeros 64 (mask_l (map (λ (x : ℕ). not (is_plain x)) (chunk 0 16 window))) ≡ length text → get_or window (length text) 0 ≡ 34 → StandsQuoted text window
stands text window is short some first mark =
    let c : List ℕ = chunk 0 16 window in
    let long : length c ≡ 16 = length-chunk 0 16 window (omega (arith, is.whole)) in
    let run = sym (trailing_mask_l (λ (x : ℕ). not (is_plain x)) 64 c (omega (arith, long)) some) ∙ first in
    record {
      whole = is.whole;
      short = short;
      plain =
          all_plain text
          (λ k within.
          let at : 0 + k ≡ k = omega arith in
          let same : get_or text k 0 ≡ get_or c k 0 =
          ap (λ (l : List ℕ). get_or l k 0) (sym is.front) ∙ get_or-take (length text) window k 0 within ∙ ap (λ (n : ℕ). get_or window n 0) (sym at)
          ∙ sym (get_or-chunk 0 16 window k 0 (omega (arith, within, short))) in
          ap is_plain same ∙ twice _ (prefix_len_passes (λ (x : ℕ). not (not (is_plain x))) c k 0 (omega (arith, within, run))));
      front = take_more window (length text) 0 (omega (arith, short, is.whole)) ∙ ap (λ (l : List ℕ). l ++ get_or window (length text) 0 ∷ []) is.front ∙ ap (λ (b : ℕ). text ++ b ∷ []) mark;
    }

pub string_front : (text window : List ℕ) → StandsQuoted text window → take (length text + 2) (34 ∷ take 15 window) ≡ printed_string text
string_front text window q =
    let two : length text + 2 ≡ suc (length text + 1) = omega arith in
    ap (λ (n : ℕ). take n (34 ∷ take 15 window)) two ∙ ap (λ (l : List ℕ). 34 ∷ l) (take-take (length text + 1) 15 window (omega (arith, q.short)) ∙ q.front) ∙ sym (printed_as_it_stands text q.plain)

module _ (key window : List ℕ) (q : StandsAsKey key window) where
  key_printed : 34 ∷ key ++ 34 ∷ 58 ∷ [] ≡ printed_string key ++ 58 ∷ []
  key_printed = ap (λ (l : List ℕ). 34 ∷ l) (sym (append_assoc key (34 ∷ []) (58 ∷ []))) ∙ ap (λ (l : List ℕ). l ++ 58 ∷ []) (sym (printed_as_it_stands key q.plain))

  pub first_key : take (length key + 3) (34 ∷ take 15 window) ≡ printed_string key ++ 58 ∷ []
  first_key =
      let three : length key + 3 ≡ suc (length key + 2) = omega arith in
      ap (λ (n : ℕ). take n (34 ∷ take 15 window)) three ∙ ap (λ (l : List ℕ). 34 ∷ l) (take-take (length key + 2) 15 window (omega (arith, q.short)) ∙ q.front) ∙ key_printed

  pub later_key : take (length key + 4) (44 ∷ 34 ∷ take 14 window) ≡ 44 ∷ printed_string key ++ 58 ∷ []
  later_key =
      let four : length key + 4 ≡ suc (suc (length key + 2)) = omega arith in
      ap (λ (n : ℕ). take n (44 ∷ 34 ∷ take 14 window)) four ∙ ap (λ (l : List ℕ). 44 ∷ 34 ∷ l) (take-take (length key + 2) 14 window (omega (arith, q.short)) ∙ q.front) ∙ ap (λ (l : List ℕ). 44 ∷ l) key_printed
