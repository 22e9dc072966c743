-- Numbers without an exponent, as they are read in one pass.
use Rattle.std.proofs.Common.{◌≡◌, ◌≢◌, ℕ, suc, ◌+◌, ◌-◌, ◌*◌, ◌^◌, ◌<◌, ◌≤◌, Bool, true, false, ◌||◌, ◌==◌, List, [], ◌∷◌, ◌++◌, length, take, drop, get_or, negsuc, refl, sym, ap, ◌∙◌, subst, arith, inl, inr}
use Rattle.std.specs.List.{prefix_len}
use Rattle.std.specs.Char.{digit_value, is_ascii_digit}
use Rattle.std.specs.Fmt.{sign_text}
use Rattle.std.specs.Str.Parse.{AllDigits, digits_value, digits_value_after}
use Rattle.std.proofs.Math.Seq.{take-suc, take-add}
use Rattle.std.proofs.lemmas.List.{take_all, drop_more, drop-drop, get_or-drop, get_or-take, length-drop, length-take-le, append-nil}
use Rattle.std.proofs.lemmas.List.Sums.{prefix_len-drop_yes, prefix_len-drop_no, prefix_len-drop_all}
use Rattle.sj_decimal.specs.Signed.{signed}
use Rattle.sj_decimal.specs.Normal.{normal, IsExact}
use lib.IntN.{+ℤ_idl}
use Rattle.sj_decimal.specs.Number.{shifted, NumberParts, value_of, SpellsNumber, SpellsExact, is_number_byte, begins_number}
use Rattle.sj_decimal.proofs.Digits.{digit_byte, digit_passed}
use Rattle.sj_decimal.specs.Shorts.{between, Passes, ReadsDigits, ReadsWhole, ReadsFraction, HasSign, ReadsNumber}

-- ---- the bytes between two places

module _ (bytes : List ℕ) where
  between_none : (at : ℕ) → between bytes at at ≡ []
  between_none at = let none : at - at ≡ 0 = omega arith in ap (λ (n : ℕ). take n (drop at bytes)) none

  length-between : (from end : ℕ) → from ≤ end → end ≤ length bytes → length (between bytes from end) ≡ end - from
  length-between from end l h = length-take-le (end - from) (drop from bytes) (omega (arith, length-drop from bytes))

  -- one byte more, at the end or in front
  between_more : (from end : ℕ) → from ≤ end → end < length bytes → between bytes from (end + 1) ≡ between bytes from end ++ get_or bytes end 0 ∷ []
  between_more from end l h =
      let n = end - from in
      let count : end + 1 - from ≡ suc n = omega arith in
      let place : from + n ≡ end = omega arith in
      ap (λ (k : ℕ). take k (drop from bytes)) count ∙ take-suc (drop from bytes) n 0 (omega (arith, length-drop from bytes))
      ∙ ap (λ (b : ℕ). take n (drop from bytes) ++ b ∷ []) (get_or-drop from bytes n 0 ∙ ap (λ (i : ℕ). get_or bytes i 0) place)

  between_first : (at end : ℕ) → at < end → end ≤ length bytes → between bytes at end ≡ get_or bytes at 0 ∷ between bytes (at + 1) end
  between_first at end l h =
      let count : end - at ≡ suc (end - (at + 1)) = omega arith in
      ap (λ (k : ℕ). take k (drop at bytes)) count ∙ ap (take (suc (end - (at + 1)))) (drop_more bytes at 0 (omega arith))

  between_cut : (from point end : ℕ) → from ≤ point → point ≤ end → between bytes from end ≡ between bytes from point ++ between bytes point end
  between_cut from point end l h =
      let count : end - from ≡ point - from + (end - point) = omega arith in
      let place : from + (point - from) ≡ point = omega arith in
      ap (λ (k : ℕ). take k (drop from bytes)) count ∙ take-add (point - from) (end - point) (drop from bytes)
      ∙ ap (λ (xs : List ℕ). between bytes from point ++ take (end - point) xs) (drop-drop (point - from) from bytes ∙ ap (λ (i : ℕ). drop i bytes) place)

  -- ---- bytes that may stand in a number

  pub passes_none : (at : ℕ) → at ≤ length bytes → Passes bytes at at
  passes_none at h = record { later = omega arith; within = h; same = refl }

  pub passes_more : (from end : ℕ) → Passes bytes from end → end < length bytes → is_number_byte (get_or bytes end 0) ≡ true → Passes bytes from (end + 1)
  passes_more from end p h is = record { later = omega (arith, p.later); within = omega arith; same = omega (arith, p.same, prefix_len-drop_yes is_number_byte bytes end 0 h is) }

  passes_through : (from point end : ℕ) → Passes bytes from point → Passes bytes point end → Passes bytes from end
  passes_through from point end p q = record { later = omega (arith, p.later, q.later); within = q.within; same = p.same ∙ q.same }

  pub nothing_passes : (at : ℕ) → (at < length bytes → is_number_byte (get_or bytes at 0) ≡ false) → at ≤ length bytes → prefix_len is_number_byte (drop at bytes) ≡ 0
  nothing_passes at other h =
      elim (Rattle.std.proofs.lemmas.Bool.cases_lt at (length bytes)) as (λ _. prefix_len is_number_byte (drop at bytes) ≡ 0) [
        | inl l ↦ prefix_len-drop_no is_number_byte bytes at 0 l (other l)
        | inr g ↦ prefix_len-drop_all is_number_byte bytes at g
      ]

digit_passes_number : (c : ℕ) → is_ascii_digit c ≡ true → is_number_byte c ≡ true
digit_passes_number c h = ap (λ (b : Bool). b || ((c == 43) || ((c == 45) || ((c == 46) || ((c == 69) || (c == 101)))))) h

-- ---- digits

AllDigits-push : (ds : List ℕ) (c : ℕ) → AllDigits 10 ds → digit_value c < 10 → AllDigits 10 (ds ++ c ∷ [])
AllDigits-push [] c h d = (d, tt)
AllDigits-push (x ∷ xs) c h d = (h.0, AllDigits-push xs c h.1 d)

after_push : (n : ℕ) (ds : List ℕ) (c : ℕ) → digits_value_after 10 n (ds ++ c ∷ []) ≡ digits_value_after 10 n ds * 10 + digit_value c
after_push n [] c = refl
after_push n (d ∷ ds) c = after_push (n * 10 + digit_value d) ds c

after_append : (n : ℕ) (xs ys : List ℕ) → digits_value_after 10 n (xs ++ ys) ≡ digits_value_after 10 (digits_value_after 10 n xs) ys
after_append n [] ys = refl
after_append n (x ∷ xs) ys = after_append (n * 10 + digit_value x) xs ys

module _ (bytes : List ℕ) where
  pub digits_none : (from n : ℕ) → from ≤ length bytes → ReadsDigits bytes from n from n
  digits_none from n h =
      record { passes = passes_none bytes from h; digits = subst (AllDigits 10) (sym (between_none bytes from)) tt; value = ap (digits_value_after 10 n) (sym (between_none bytes from)) }

  pub digits_more : (from n end m : ℕ) → ReadsDigits bytes from n end m → end < length bytes → is_ascii_digit (get_or bytes end 0) ≡ true → ReadsDigits bytes from n (end + 1) (m * 10 + (get_or bytes end 0 - 48))
  digits_more from n end m r h is =
      let c = get_or bytes end 0 in
      let digit : digit_value c < 10 = digit_passed c is in
      let more = between_more bytes from end r.passes.later h in
      let value : m * 10 + (c - 48) ≡ digits_value_after 10 n (between bytes from end ++ c ∷ []) = omega (arith, r.value, (digit_byte c digit).value, after_push n (between bytes from end) c) in
      record {
        passes = passes_more bytes from end r.passes h (digit_passes_number c is);
        digits = subst (AllDigits 10) (sym more) (AllDigits-push (between bytes from end) c r.digits digit);
        value = value ∙ ap (digits_value_after 10 n) (sym more);
      }

  pub whole_reads : (from end m : ℕ) → ReadsDigits bytes from 0 end m → end ≢ from → (1 < end - from → get_or bytes from 0 ≢ 48) → ReadsWhole bytes from end m
  whole_reads from end m r some first =
      let long = length-between bytes from end r.passes.later r.passes.within in
      let more : from < end = omega (arith, r.passes.later) in
      let place : from + 0 ≡ from = omega arith in
      let head : get_or (between bytes from end) 0 0 ≡ get_or bytes from 0 = get_or-take (end - from) (drop from bytes) 0 0 (omega arith) ∙ get_or-drop from bytes 0 0 ∙ ap (λ (i : ℕ). get_or bytes i 0) place in
      record {
        passes = r.passes;
        whole = ((omega (arith, long), r.digits), λ l e. first (omega (arith, long)) (sym head ∙ e));
        value = r.value;
      }

  pub no_fraction : (point n : ℕ) → point ≤ length bytes → ReadsFraction bytes point n point n
  no_fraction point n h =
      record { passes = passes_none bytes point h; digits = []; fraction = inl (refl, between_none bytes point); value = refl; places = omega arith }

  pub fraction_reads : (point n end m : ℕ) → point < length bytes → get_or bytes point 0 ≡ 46 → ReadsDigits bytes (point + 1) n end m → end ≢ point + 1 → ReadsFraction bytes point n end m
  fraction_reads point n end m h is r some =
      let long = length-between bytes (point + 1) end r.passes.later r.passes.within in
      let more : point + 1 < end = omega (arith, r.passes.later) in
      record {
        passes = passes_through bytes point (point + 1) end (passes_more bytes point point (passes_none bytes point (omega arith)) h (ap is_number_byte is)) r.passes;
        digits = between bytes (point + 1) end;
        fraction = inr ((omega (arith, long), r.digits), between_first bytes point end (omega arith) r.passes.within ∙ ap (λ (b : ℕ). b ∷ between bytes (point + 1) end) is);
        value = r.value;
        places = omega (arith, long);
      }

-- ---- the number

-- a fraction's digits move the point
value_moved : (negative : Bool) (whole fraction : List ℕ) (n m : ℕ) → n ≡ digits_value_after 10 0 whole → m ≡ digits_value_after 10 n fraction
    → (signed negative m, length fraction) ≡ value_of (record { negative = negative; whole = whole; fraction = fraction; exponent_negative = false; exponent = [] })
value_moved negative whole [] n m p q =
    let same : m ≡ digits_value 10 (whole ++ []) * 10 ^ 0 = omega (arith, p, q, ap (digits_value 10) (append-nil whole)) in
    ap (λ (k : ℕ). (signed negative k, 0)) same
value_moved negative whole (c ∷ cs) n m p q =
    let same : m ≡ digits_value 10 (whole ++ c ∷ cs) = q ∙ ap (λ (k : ℕ). digits_value_after 10 k (c ∷ cs)) p ∙ sym (after_append 0 whole (c ∷ cs)) in
    ap (λ (k : ℕ). (signed negative k, length (c ∷ cs))) same ∙ ap (shifted negative (digits_value 10 (whole ++ c ∷ cs))) (sym (+ℤ_idl (negsuc (length cs))))

-- the bytes from the place `at` are a sign and what was read of a number
pub number_read : (bytes : List ℕ) (at from point end n m : ℕ) (negative : Bool) → ReadsWhole bytes from point n → ReadsFraction bytes point n end m
    → between bytes at end ≡ sign_text negative ++ between bytes from end → SpellsNumber (between bytes at end) (signed negative m, end - point - 1)
number_read bytes at from point end n m negative w f text =
    let parts : NumberParts = record { negative = negative; whole = between bytes from point; fraction = f.digits; exponent_negative = false; exponent = [] } in
    record {
      parts = parts;
      number = record {
        fraction_text = between bytes point end;
        exponent_text = [];
        whole = w.whole;
        fraction = f.fraction;
        exponent = inl (refl, refl, refl);
        text = text ∙ ap (λ (xs : List ℕ). sign_text negative ++ xs) (between_cut bytes from point end w.passes.later f.passes.later ∙ ap (λ (xs : List ℕ). between bytes from point ++ xs) (sym (append-nil (between bytes point end))));
      };
      value = ap (λ (k : ℕ). (signed negative m, k)) f.places ∙ value_moved negative (between bytes from point) f.digits n m w.value f.value;
    }

pub signed_text : (bytes : List ℕ) (at from end : ℕ) (negative : Bool) → HasSign bytes at from negative → from ≤ end → end ≤ length bytes → between bytes at end ≡ sign_text negative ++ between bytes from end
signed_text bytes at from end true sign later within =
    let here = sign.minus refl in
    let more : at < end = omega (arith, later, here.1) in
    between_first bytes at end more within ∙ ap (λ (b : ℕ). b ∷ between bytes (at + 1) end) here.0 ∙ ap (λ (i : ℕ). 45 ∷ between bytes i end) (sym here.1)
signed_text bytes at from end false sign later within = ap (λ (i : ℕ). between bytes i end) (sym (sign.plain refl))

-- all bytes are such a number
pub short_spells : (bytes : List ℕ) (from point end n m : ℕ) (negative : Bool) → HasSign bytes 0 from negative → ReadsWhole bytes from point n → ReadsFraction bytes point n end m
    → length bytes ≤ end → IsExact (signed negative m, end - point - 1) → SpellsExact bytes (normal (signed negative m, end - point - 1))
short_spells bytes from point end n m negative sign w f all exact =
    let later : from ≤ end = omega (arith, w.passes.later, f.passes.later) in
    let whole : between bytes 0 end ≡ bytes = take_all (end - 0) bytes (omega (arith, all)) in
    let number = number_read bytes 0 from point end n m negative w f (signed_text bytes 0 from end negative sign later f.passes.within) in
    record {
      value = (signed negative m, end - point - 1);
      spells = subst (λ (b : List ℕ). SpellsNumber b (signed negative m, end - point - 1)) whole number;
      exact = exact;
      normal_form = refl;
    }

-- ---- a number among other bytes

left_of : (a b : Bool) → (a || b) ≡ true → b ≡ false → a ≡ true
left_of true b h e = refl
left_of false b h e = cc

begin_passes : (c : ℕ) → begins_number c ≡ true → (c == 45) ≡ false → is_number_byte c ≡ true
begin_passes c b e = digit_passes_number c (left_of (is_ascii_digit c) (c == 45) b e)

-- the place behind the first byte of the number
first_passes : (bytes : List ℕ) (at from end : ℕ) (negative : Bool) → HasSign bytes at from negative → at < length bytes → begins_number (get_or bytes at 0) ≡ true → (negative ≡ false → (get_or bytes at 0 == 45) ≡ false)
    → Passes bytes from end → prefix_len is_number_byte (drop end bytes) ≡ 0 → end ≡ at + 1 + prefix_len is_number_byte (drop (at + 1) bytes)
first_passes bytes at from end true sign h begins digit p stops =
    let here = (sign.minus refl).1 in
    omega (arith, p.same, stops, here, ap (λ (i : ℕ). prefix_len is_number_byte (drop i bytes)) here)
first_passes bytes at from end false sign h begins digit p stops =
    let here = sign.plain refl in
    let first = prefix_len-drop_yes is_number_byte bytes at 0 h (begin_passes (get_or bytes at 0) begins (digit refl)) in
    omega (arith, p.same, stops, here, first, ap (λ (i : ℕ). prefix_len is_number_byte (drop i bytes)) here)

pub number_reads : (bytes : List ℕ) (at from point end n m : ℕ) (negative : Bool) → HasSign bytes at from negative → at < length bytes → begins_number (get_or bytes at 0) ≡ true → (negative ≡ false → (get_or bytes at 0 == 45) ≡ false)
    → ReadsWhole bytes from point n → ReadsFraction bytes point n end m → prefix_len is_number_byte (drop end bytes) ≡ 0 → ReadsNumber bytes at end
number_reads bytes at from point end n m negative sign h begins digit w f stops =
    let p = passes_through bytes from point end w.passes f.passes in
    record {
      end_is = first_passes bytes at from end negative sign h begins digit p stops;
      number = ((signed negative m, end - point - 1), number_read bytes at from point end n m negative w f (signed_text bytes at from end negative sign p.later p.within));
    }
