-- Short texts in a window.
use Rattle.std.proofs.Common.{◌≡◌, ℕ, suc, ◌+◌, ◌<◌, ◌≤◌, Bool, true, false, not, List, [], ◌∷◌, ◌++◌, length, take, drop, get_or, map, refl, sym, ap, ap₂, ◌∙◌, arith, append_assoc, take-append-drop}
use Rattle.std.proofs.lemmas.List.{take-take, length-drop, length-take-le, get_or-take, get_or-append-add}
use Rattle.std.proofs.lemmas.Simd.{none_from_empty_mask}
use Rattle.std.proofs.lemmas.Bool.Decides.{nat_tests}
use Rattle.std.proofs.Math.Seq.{take-append-add}
use Rattle.std.specs.List.{flat_map}
use Rattle.sj_base.specs.ByteClasses.{is_plain}
use Rattle.sj_json.specs.Printing.{printed_byte, printed_string}
use Rattle.sj_text.specs.Windows.{IsQuoted}
use lib.Lanes.{chunk, mask_l}

-- ---- bytes that stand for themselves

printed_plain : (b : ℕ) → is_plain b ≡ true → printed_byte b ≡ b ∷ []
printed_plain b h = grind (arith, nat_tests)

pub all_plain : (bs : List ℕ) → ((k : ℕ) → k < length bs → is_plain (get_or bs k 0) ≡ true) → flat_map printed_byte bs ≡ bs
all_plain [] h = refl
all_plain (b ∷ bs) h = ap₂ (λ (x y : List ℕ). x ++ y) (printed_plain b (h 0 (omega arith))) (all_plain bs (λ k within. h (suc k) (omega (arith, within))))

opposite : (b : Bool) → not b ≡ false → b ≡ true
opposite true h = refl
opposite false h = cc

-- none of 16 bytes behind the first of a window is one that has an escape
no_stops : (bytes window : List ℕ) → length bytes ≤ 16 → 17 ≤ length window → take (1 + length bytes) window ≡ 34 ∷ bytes → mask_l (map (λ (x : ℕ). not (is_plain x)) (chunk 1 16 window)) ≡ 0 → flat_map printed_byte bytes ≡ bytes
no_stops bytes window short room whole none =
    all_plain bytes
    (λ k within.
    let same : get_or bytes k 0 ≡ get_or window (1 + k) 0 =
    sym (get_or-append-add (34 ∷ []) bytes k 0) ∙ ap (λ (l : List ℕ). get_or l (1 + k) 0) (sym whole) ∙ get_or-take (1 + length bytes) window (1 + k) 0 (omega (arith, within)) in
    ap is_plain same ∙ opposite _ (none_from_empty_mask (λ (x : ℕ). not (is_plain x)) window 1 16 0 room none (1 + k) (omega arith) (omega (arith, within, short))))

-- ---- two moves that may overlap

pub both_ends : (old middle new bytes front back : List ℕ) (at size last : ℕ) → at ≤ length old → last + size ≡ length bytes → last ≤ size → front ≡ take size bytes → back ≡ drop last bytes
    → take (at + length front) middle ≡ take at old ++ front → take (at + last + length back) new ≡ take (at + last) middle ++ back → take (at + length bytes) new ≡ take at old ++ bytes
both_ends old middle new bytes front back at size last room all few is_front is_back first second =
    let front_long : length front ≡ size = ap length is_front ∙ length-take-le size bytes (omega (arith, all)) in
    let back_long : length back ≡ size = ap length is_back ∙ length-drop last bytes ∙ omega (arith, all) in
    let old_long : at + last ≡ length (take at old) + last = ap (λ (n : ℕ). n + last) (sym (length-take-le at old room)) in
    let less : take (at + last) middle ≡ take at old ++ take last bytes =
    sym (take-take (at + last) (at + length front) middle (omega (arith, few, front_long)))
    ∙ ap (take (at + last)) first
    ∙ ap (λ (n : ℕ). take n (take at old ++ front)) old_long
    ∙ take-append-add (take at old) front last
    ∙ ap (λ (l : List ℕ). take at old ++ l) (ap (take last) is_front ∙ take-take last size bytes few) in
    let sum : at + length bytes ≡ at + last + length back = omega (arith, all, back_long) in
    ap (λ (n : ℕ). take n new) sum
    ∙ second
    ∙ ap₂ (λ (x y : List ℕ). x ++ y) less is_back
    ∙ append_assoc (take at old) (take last bytes) (drop last bytes)
    ∙ ap (λ (l : List ℕ). take at old ++ l) (take-append-drop last bytes)

-- ---- a string between quotation marks

pub printed_as_it_stands : (bytes : List ℕ) → flat_map printed_byte bytes ≡ bytes → printed_string bytes ≡ 34 ∷ bytes ++ 34 ∷ []
printed_as_it_stands bytes plain = ap (λ (l : List ℕ). 34 ∷ l ++ 34 ∷ []) plain

-- the first mark was written, then the bytes, then the last mark
pub is_quoted : (bytes first second last : List ℕ) → length bytes ≤ 16 → 17 ≤ length second → take 1 first ≡ 34 ∷ [] → take (1 + length bytes) second ≡ take 1 first ++ bytes
    → mask_l (map (λ (x : ℕ). not (is_plain x)) (chunk 1 16 second)) ≡ 0 → take (length bytes + 1 + 1) last ≡ take (length bytes + 1) second ++ 34 ∷ [] → IsQuoted bytes last
is_quoted bytes first second last short room begins goes_on none ends =
    let whole : take (1 + length bytes) second ≡ 34 ∷ bytes = goes_on ∙ ap (λ (l : List ℕ). l ++ bytes) begins in
    let turned : length bytes + 1 ≡ 1 + length bytes = omega arith in
    let two : length bytes + 2 ≡ length bytes + 1 + 1 = omega arith in
    record {
      short = short;
      front = ap (λ (n : ℕ). take n last) two ∙ ends ∙ ap (λ (l : List ℕ). l ++ 34 ∷ []) (ap (λ (n : ℕ). take n second) turned ∙ whole) ∙ sym (printed_as_it_stands bytes (no_stops bytes second short room whole none));
    }
