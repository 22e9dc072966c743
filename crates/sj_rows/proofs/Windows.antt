-- Texts at the front of their windows.
use Rattle.std.proofs.Common.{◌≡◌, ◌≢◌, ℕ, suc, zero, ◌+◌, ◌-◌, ◌*◌, ◌/◌, ◌^◌, ◌<◌, ◌≤◌, Bool, true, false, not, cond, List, [], ◌∷◌, length, take, drop, get_or, map, sym, ap, ◌∙◌, subst, arith, ◌⊎◌, inl, inr}
use Rattle.std.proofs.lemmas.List.{take-take, get_or-take, get_or-drop, drop-map, length-drop, take_all}
use Rattle.std.proofs.lemmas.List.Sums.{prefix_len_passes}
use Rattle.std.proofs.lemmas.Simd.{leading_from_mask_l, trailing_mask_l}
use Rattle.std.proofs.lemmas.Bool.{cases_eq, cases_order, not-true}
use Rattle.std.proofs.lemmas.Bool.Decides.{nat_tests}
use Rattle.std.specs.Char.{is_ascii_digit, IsAsciiDigit}
use Rattle.sj_doc.specs.StoredTexts.{IsWindow}
use Rattle.sj_rows.specs.RowText.{has_escape, escaped}
use Rattle.sj_rows.specs.Numerals.{HasDigits}
use Rattle.sj_rows.proofs.Short.{all_stand}
use lib.Lanes.{chunk, mask_l}
use lib.Count.{count_trailing_zeros}
use native.Mathlib.Nat.{pow-suc, mul_comm, zero-div, div-one, div-div-eq-div-mul}

half : (m : Bool) (n : ℕ) → (cond m 1 0 + 2 * n) / 2 ≡ n
half true n = omega arith
half false n = omega arith

-- a mask that is moved down is that of the lanes from there on
mask_drop : (ms : List Bool) (k : ℕ) → mask_l ms / 2 ^ k ≡ mask_l (drop k ms)
mask_drop ms zero = div-one (mask_l ms)
mask_drop [] (suc k) = zero-div (2 ^ suc k)
mask_drop (m ∷ ms) (suc k) =
    ap (λ n. mask_l (m ∷ ms) / n) (pow-suc 2 k ∙ mul_comm (2 ^ k) 2) ∙ sym (div-div-eq-div-mul (mask_l (m ∷ ms)) 2 (2 ^ k)) ∙ ap (λ n. n / 2 ^ k) (half m (mask_l ms)) ∙ mask_drop ms k

module _ (p : ℕ → Bool) where
  -- no lane before the lowest bit passes p
  pub fails_before : (xs : List ℕ) → length xs ≤ 64 → (k : ℕ) → k < length xs → k < count_trailing_zeros 64 (mask_l (map p xs)) → p (get_or xs k 0) ≡ false
  fails_before xs few k within before =
      not-true _
      (prefix_len_passes (λ x. not (p x)) xs k 0
      (elim (cases_eq (mask_l (map p xs)) 0) [
        | inl none ↦ omega (arith, leading_from_mask_l p xs none, within)
        | inr some ↦ omega (arith, trailing_mask_l p 64 xs few (omega (arith, some)), before)
      ]))

  -- the same behind a lane
  pub fails_behind : (xs : List ℕ) (from : ℕ) → length xs ≤ 64 → (k : ℕ) → from ≤ k → k < length xs → k < from + count_trailing_zeros 64 (mask_l (map p xs) / 2 ^ from) → p (get_or xs k 0) ≡ false
  fails_behind xs from few k behind within before =
      let back : from + (k - from) ≡ k = omega (arith, behind) in
      let mask : mask_l (map p xs) / 2 ^ from ≡ mask_l (map p (drop from xs)) = mask_drop (map p xs) from ∙ ap mask_l (drop-map p from xs) in
      let at : get_or (drop from xs) (k - from) 0 ≡ get_or xs k 0 = get_or-drop from xs (k - from) 0 ∙ ap (λ (n : ℕ). get_or xs n 0) back in
      ap p (sym at)
      ∙ fails_before (drop from xs) (omega (arith, length-drop from xs, few)) (k - from) (omega (arith, length-drop from xs, behind, within))
      (omega (arith, ap (count_trailing_zeros 64) mask, behind, before))

-- a byte of the text is that of its window
in_window : (text window : List ℕ) → IsWindow text window → (k : ℕ) → k < length text → get_or text k 0 ≡ get_or window k 0
in_window text window is k within = ap (λ (l : List ℕ). get_or l k 0) (sym is.front) ∙ get_or-take (length text) window k 0 within

-- no byte of the text has an escape
pub plain_text : (text window : List ℕ) → IsWindow text window → length text ≤ count_trailing_zeros 64 (mask_l (map has_escape window)) → escaped text ≡ text
plain_text text window is none =
    all_stand text (λ k within. ap has_escape (in_window text window is k within) ∙ fails_before has_escape window (omega (arith, is.whole)) k (omega (arith, is.short, is.whole, within)) (omega (arith, within, none)))

digit_from : (b : ℕ) → not (is_ascii_digit b) ≡ false → IsAsciiDigit b
digit_from b h = grind (arith, nat_tests, h)

-- the bytes that are no digits
abbrev pub others : List ℕ → ℕ
others window = mask_l (map (λ (x : ℕ). not (is_ascii_digit x)) window)

before_or_behind : (k point : ℕ) → k ≢ point → (k < point) ⊎ (point < k)
before_or_behind k point other =
    elim (cases_order k point) as (λ _. (k < point) ⊎ (point < k)) [
      | inl e ↦ absurd (other e)
      | inr w ↦ w
    ]

module _ (numeral window : List ℕ) (is : IsWindow numeral window) (point : ℕ) where
  digit_at : (k : ℕ) → k < length numeral → not (is_ascii_digit (get_or window k 0)) ≡ false → IsAsciiDigit (get_or numeral k 0)
  digit_at k within h = subst IsAsciiDigit (sym (in_window numeral window is k within)) (digit_from _ h)

  pub all_digits : length numeral ≤ count_trailing_zeros 64 (others window) → HasDigits point numeral
  all_digits all =
      λ k within _. digit_at k within (fails_before (λ (x : ℕ). not (is_ascii_digit x)) window (omega (arith, is.whole)) k (omega (arith, is.short, is.whole, within)) (omega (arith, within, all)))

  pub digits_but_one : count_trailing_zeros 64 (others window) ≡ point → length numeral ≤ point + 1 + count_trailing_zeros 64 (others window / 2 ^ (count_trailing_zeros 64 (others window) + 1)) → HasDigits point numeral
  digits_but_one first rest =
      λ k within other.
      let room : k < length window = omega (arith, is.short, is.whole, within) in
      let few : length window ≤ 64 = omega (arith, is.whole) in
      digit_at k within
      (elim (before_or_behind k point other) [
        | inl l ↦ fails_before (λ (x : ℕ). not (is_ascii_digit x)) window few k room (omega (arith, first, l))
        | inr g ↦ fails_behind (λ (x : ℕ). not (is_ascii_digit x)) window (count_trailing_zeros 64 (others window) + 1) few k (omega (arith, first, g)) room (omega (arith, first, rest, within))
      ])

-- a vector that is read from a window is all of it
pub read_whole : (text window : List ℕ) → IsWindow text window → chunk 0 16 window ≡ window
read_whole text window is = take_all 16 window (omega (arith, is.whole))

pub behind_tab : (len : ℕ) (window : List ℕ) → len < 16 → take (len + 1) (9 ∷ take 15 window) ≡ 9 ∷ take len window
behind_tab len window short =
    let more : len + 1 ≡ suc len = omega arith in
    ap (λ (n : ℕ). take n (9 ∷ take 15 window)) more ∙ ap (λ (l : List ℕ). 9 ∷ l) (take-take len 15 window (omega (arith, short)))
