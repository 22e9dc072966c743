-- Short texts in a window.
use Rattle.std.proofs.Common.{◌≡◌, ℕ, suc, ◌+◌, ◌<◌, ◌≤◌, true, false, List, [], ◌∷◌, ◌++◌, length, take, get_or, map, eqb, refl, sym, ap, ap₂, ◌∙◌, arith, inl, inr}
use Rattle.std.proofs.lemmas.List.{get_or-take, get_or-append-add}
use Rattle.std.proofs.lemmas.Simd.{none_from_empty_mask}
use Rattle.std.proofs.lemmas.Bool.Decides.{nat_tests, eqb_tells}
use Rattle.sj_rows.specs.RowText.{has_escape, escaped_byte, escaped}
use lib.Lanes.{chunk, mask_l}

stands_alone : (b : ℕ) → has_escape b ≡ false → escaped_byte b ≡ b ∷ []
stands_alone b h = grind (arith, nat_tests)

pub all_stand : (bs : List ℕ) → ((k : ℕ) → k < length bs → has_escape (get_or bs k 0) ≡ false) → escaped bs ≡ bs
all_stand [] h = refl
all_stand (b ∷ bs) h = ap₂ (λ (x y : List ℕ). x ++ y) (stands_alone b (h 0 (omega arith))) (all_stand bs (λ k within. h (suc k) (omega (arith, within))))

pub is_nought : (n : ℕ) → eqb n 0 ≡ true → n ≡ 0
is_nought n h = elim (eqb_tells n 0) as (λ _. n ≡ 0) [
  | inl z ↦ z.1
  | inr z ↦ (let no : false ≡ true = sym z.0 ∙ h in absurd (cc no))
]

-- a TAB was written, then the bytes, and none of the 16 behind the TAB has an escape
pub is_tabbed : (bytes first second : List ℕ) → length bytes ≤ 16 → 17 ≤ length second → take 1 first ≡ 9 ∷ [] → take (1 + length bytes) second ≡ take 1 first ++ bytes
    → mask_l (map has_escape (chunk 1 16 second)) ≡ 0 → take (1 + length bytes) second ≡ 9 ∷ escaped bytes
is_tabbed bytes first second short room begins goes_on none =
    let whole : take (1 + length bytes) second ≡ 9 ∷ bytes = goes_on ∙ ap (λ (l : List ℕ). l ++ bytes) begins in
    whole
    ∙ ap (λ (l : List ℕ). 9 ∷ l)
    (sym
    (all_stand bytes
    (λ k within.
    let same : get_or bytes k 0 ≡ get_or second (1 + k) 0 =
    sym (get_or-append-add (9 ∷ []) bytes k 0) ∙ ap (λ (l : List ℕ). get_or l (1 + k) 0) (sym whole) ∙ get_or-take (1 + length bytes) second (1 + k) 0 (omega (arith, within)) in
    ap has_escape same ∙ none_from_empty_mask has_escape second 1 16 0 room none (1 + k) (omega arith) (omega (arith, within, short)))))
