-- Numerals, digit by digit, as the texts of their numbers.
use Rattle.std.proofs.Common.{◌≡◌, ◌≢◌, ℕ, zero, suc, ◌+◌, ◌-◌, ◌*◌, ◌/◌, ◌%◌, ◌^◌, ◌<◌, ◌≤◌, List, [], ◌∷◌, ◌++◌, length, take, drop, get_or, set, decimal, pos, refl, sym, ap, ap₂, ◌∙◌, ⊎_elim, arith, append-nil, append_assoc, Option, Some, None, IfSome, lt_of_lt_of_le}
use borrow.Author.Count.{below_more}
use Rattle.std.specs.Char.{digit_value}
use Rattle.std.specs.Int.{IsInRange}
use Rattle.std.specs.Str.Parse.{digits_value}
use Rattle.std.proofs.lemmas.Bool.{cases_lt}
use Rattle.std.proofs.lemmas.Str.{digit_value_digit}
use Rattle.std.proofs.lemmas.Str.Parse.{IsNumeralModel, numerals_by_value, tells_by_index, digits_value_short}
use Rattle.std.proofs.lemmas.Fmt.{decimal-digits_value}
use Rattle.std.proofs.lemmas.Int.Digits.{digits_value_more}
use Rattle.std.proofs.lemmas.List.{take_more, take_more_set, take_all, take_at, take-append-drop, drop_more, drop_at, length-set, length-append, length-drop, length-take-le, get_or-take, get_or-drop, get_or_append_left, get_or-append_right, get_or_push, length_push}
use Rattle.std.proofs.Math.Nat.{div-div-eq-div-mul, pow-succ'}
use Rattle.sj_decimal.specs.Text.{decimal_text, last_digits}
use Rattle.sj_decimal.proofs.Powers.{power_le}
use Rattle.sj_decimal.proofs.Texts.{last_digits_none, last_digits_more, decimals_text-positive}
use Rattle.sj_text.specs.Numerals.{IsDecimalText}
use Rattle.sj_rows.specs.Numerals.{HasDigits, IsTextOf}

-- ---- the pass over the bytes

-- up to a place the bytes were checked and copied behind a TAB
pub record Copying (point at : ℕ) (bytes window : List ℕ) : Type 0 where
  pub long : length window ≡ 24
  pub front : take (at + 1) window ≡ 9 ∷ take at bytes
  pub digits : (k : ℕ) → k < at → (k ≡ point → ⊥) → IsInRange 48 57 (get_or bytes k 0)

pub copied_more : (point at : ℕ) (bytes window : List ℕ) → Copying point at bytes window → at < length bytes → length bytes < 24 → ((at ≡ point → ⊥) → IsInRange 48 57 (get_or bytes at 0))
    → Copying point (at + 1) bytes (set window (at + 1) (get_or bytes at 0))
copied_more point at bytes window c within few digit =
    let b : ℕ = get_or bytes at 0 in
    record {
      long = length-set window (at + 1) b ∙ c.long;
      front = take_more_set window (at + 1) b (omega (arith, c.long, within, few)) ∙ ap (λ (l : List ℕ). l ++ b ∷ []) c.front ∙ ap (λ (l : List ℕ). 9 ∷ l) (sym (take_more bytes at 0 within));
      digits = below_more (λ (k : ℕ). (k ≡ point → ⊥) → IsInRange 48 57 (get_or bytes k 0)) at c.digits digit;
    }

-- ---- a whole number

abbrev AreDigits : List ℕ → Type 0
AreDigits ds = (k : ℕ) → k < length ds → IsInRange 48 57 (get_or ds k 0)

by_index : IsNumeralModel AreDigits (digits_value 10)
by_index = numerals_by_value AreDigits tells_by_index

-- digits with no zero before others are the text of the number that they write
text_of_digits : (ds : List ℕ) → AreDigits ds → 0 < length ds → length ds ≤ 18 → (get_or ds 0 0 ≡ 48 → length ds ≡ 1) → decimal (digits_value 10 ds) ≡ ds
text_of_digits ds digits some few lone =
    let small : digits_value 10 ds < 10 ^ 18 = digits_value_short by_index ds 18 digits few in
    decimal-digits_value by_index ds digits some lone (omega (arith, small))

text_of_whole : (n : ℕ) → decimal_text (pos n, 0) ≡ decimal n
text_of_whole n = append-nil (decimal (n / 10 ^ 0)) ∙ ap decimal (omega arith)

pub whole_text_of : (most : ℕ) (ds : List ℕ) → HasDigits (length ds) ds → 0 < length ds → length ds ≤ most → most ≤ 18 → (get_or ds 0 0 ≡ 48 → length ds ≡ 1) → IsTextOf most 0 ds
whole_text_of most ds digits some few small lone =
    let all : AreDigits ds = λ k within. digits k within (λ is. absurd (omega (arith, within, is))) in
    record {
      number = digits_value 10 ds;
      text = sym (text_of_digits ds all some (omega (arith, few, small)) lone) ∙ sym (text_of_whole (digits_value 10 ds));
      small = digits_value_short by_index ds most all few;
    }

-- more digits are allowed
pub more_digits : (most digits places : ℕ) (b : List ℕ) → IsTextOf most 0 b → most ≤ digits → places ≡ 0 → IsTextOf digits places b
more_digits most digits places b t fewer none =
    record {
      number = t.number;
      text = t.text ∙ ap (λ (s : ℕ). decimal_text (pos t.number, s)) (sym none);
      small = lt_of_lt_of_le t.small (power_le most digits fewer);
    }

-- ---- a number with decimals

-- the number that the first k digits write
abbrev front_value : ℕ → List ℕ → ℕ
front_value k ds = digits_value 10 (take k ds)

-- a digit more
one_more : (ds : List ℕ) (k : ℕ) → AreDigits ds → k < length ds → (front_value (k + 1) ds / 10 ≡ front_value k ds) × (48 + front_value (k + 1) ds % 10 ≡ get_or ds k 0)
one_more ds k digits within =
    let c : ℕ = get_or ds k 0 in
    let range : IsInRange 48 57 c = digits k within in
    let digit : digit_value c + 48 ≡ c = digit_value_digit c range in
    let grown : front_value (k + 1) ds ≡ front_value k ds * 10 + digit_value c = digits_value_more 10 ds k within in
    (omega (arith, grown, digit, range.1), omega (arith, grown, digit, range.1))

-- the k digits behind the first j are cut off by a division, and are the last digits
cut_digits : (ds : List ℕ) (j k : ℕ) → AreDigits ds → j + k ≤ length ds → (front_value (j + k) ds / 10 ^ k ≡ front_value j ds) × (last_digits k (front_value (j + k) ds) ≡ take k (drop j ds))
cut_digits ds j zero digits within =
    let same : j + 0 ≡ j = omega arith in
    rw (same, last_digits_none) (omega arith, refl)
cut_digits ds j (suc k) digits within =
    let next : j + suc k ≡ j + k + 1 = omega arith in
    let another : k + 1 ≡ suc k = omega arith in
    let n : ℕ = front_value (j + k + 1) ds in
    let before = cut_digits ds j k digits (omega arith) in
    let more = one_more ds (j + k) digits (omega arith) in
    let quotient : n / 10 ^ suc k ≡ front_value j ds =
    ap (λ (p : ℕ). n / p) (pow-succ' 10 k) ∙ sym (div-div-eq-div-mul n 10 (10 ^ k)) ∙ ap (λ (x : ℕ). x / 10 ^ k) more.0 ∙ before.0 in
    let last : last_digits (suc k) n ≡ take (suc k) (drop j ds) =
    last_digits_more k n ∙ ap₂ (λ (x y : ℕ). last_digits k x ++ y ∷ []) more.0 (more.1 ∙ sym (get_or-drop j ds k 0)) ∙ ap (λ (l : List ℕ). l ++ get_or (drop j ds) k 0 ∷ []) before.1
    ∙ sym (take_more (drop j ds) k 0 (omega (arith, length-drop j ds))) ∙ ap (λ (e : ℕ). take e (drop j ds)) another in
    rw next (quotient, last)

-- the bytes without the one at the point
abbrev without : ℕ → List ℕ → List ℕ
without point b = take point b ++ drop (point + 1) b

digits_without : (point : ℕ) (b : List ℕ) → HasDigits point b → point < length b → AreDigits (without point b)
digits_without point b digits within k below =
    let front : length (take point b) ≡ point = length-take-le point b (omega arith) in
    let total : length (without point b) ≡ point + (length b - (point + 1)) =
    length-append (take point b) (drop (point + 1) b) ∙ ap₂ (λ (x y : ℕ). x + y) front (length-drop (point + 1) b) in
    ⊎_elim
    (λ before.
    let same : get_or (without point b) k 0 ≡ get_or b k 0 =
    get_or_append_left (take point b) (drop (point + 1) b) 0 k (omega (arith, front, before)) ∙ get_or-take point b k 0 before in
    rw same (digits k (omega arith) (λ is. absurd (omega arith))))
    (λ behind.
    let place : point + 1 + (k - point) ≡ k + 1 = omega (arith, behind) in
    let same : get_or (without point b) k 0 ≡ get_or b (k + 1) 0 =
    get_or-append_right (take point b) (drop (point + 1) b) point k 0 front behind ∙ get_or-drop (point + 1) b (k - point) 0 ∙ ap (λ (i : ℕ). get_or b i 0) place in
    rw same (digits (k + 1) (omega (arith, total, below, behind)) (λ is. absurd (omega arith))))
    (cases_lt k point)

split_at : (point : ℕ) (b : List ℕ) → point < length b → get_or b point 0 ≡ 46 → b ≡ take point b ++ 46 ∷ drop (point + 1) b
split_at point b within is =
    sym (take-append-drop point b) ∙ ap (λ (l : List ℕ). take point b ++ l) (drop_more b point 0 within ∙ ap (λ (c : ℕ). c ∷ drop (point + 1) b) is)

pub fixed_text_of : (digits places point : ℕ) (b : List ℕ) → HasDigits point b → length b ≡ point + 1 + places → get_or b point 0 ≡ 46 → 0 < point → 0 < places → length b ≤ 19 → length b ≤ digits + 1 → (get_or b 0 0 ≡ 48 → point ≡ 1)
    → IsTextOf digits places b
fixed_text_of digits places point b are long is some decimals short few lone =
    let ds : List ℕ = without point b in
    let whole : List ℕ = take point b in
    let fraction : List ℕ = drop (point + 1) b in
    let within : point < length b = omega (arith, long) in
    let all : AreDigits ds = digits_without point b are within in
    let front : length whole ≡ point = length-take-le point b (omega arith) in
    let after : length b - (point + 1) ≡ places = omega (arith, long) in
    let behind : length fraction ≡ places = length-drop (point + 1) b ∙ after in
    let total : length ds ≡ point + places = length-append whole fraction ∙ ap₂ (λ (x y : ℕ). x + y) front behind in
    let n : ℕ = front_value (point + places) ds in
    let cut = cut_digits ds point places all (omega (arith, total)) in
    let first : take point ds ≡ whole = take_at whole fraction point front in
    let last : take places (drop point ds) ≡ fraction = ap (take places) (drop_at whole fraction point front) ∙ take_all places fraction (omega (arith, behind)) in
    let are_whole : AreDigits whole = λ k below.
    rw (get_or-take point b k 0 (omega (arith, front, below))) (are k (omega (arith, front, below, within)) (λ same. absurd (omega (arith, front, below, same)))) in
    let written : decimal (n / 10 ^ places) ≡ whole =
    ap decimal (cut.0 ∙ ap (digits_value 10) first)
    ∙ text_of_digits whole are_whole (omega (arith, front, some)) (omega (arith, front, long, short)) (λ h. front ∙ lone (sym (get_or-take point b 0 0 some) ∙ h)) in
    record {
      number = n;
      text = split_at point b within is ∙ ap₂ (λ (x y : List ℕ). x ++ 46 ∷ y) (sym written) (sym (cut.1 ∙ last)) ∙ ap (λ (l : List ℕ). decimal (n / 10 ^ places) ++ l) (sym (decimals_text-positive places n decimals));
      small = rw (take_all (point + places) ds (omega (arith, total))) (digits_value_short by_index ds digits all (omega (arith, total, long, few)));
    }

-- ---- the text of a decimal

-- in normal form it is
in_normal_form : (places : ℕ) (b : List ℕ) (t : IsTextOf 18 places b) → places ≤ 18 → (0 < places → t.number % 10 ≢ 0) → IsDecimalText b
in_normal_form places b t few normal =
    record {
      value = (pos t.number, places);
      made = record { normal = normal; limits = record { coefficient = omega (arith, t.small); scale = omega (arith, few) } };
      text = sym t.text;
    }

-- the last byte is the last decimal
last_byte : (n k : ℕ) (b : List ℕ) → b ≡ decimal_text (pos n, suc k) → get_or b (length b - 1) 0 ≡ 48 + n % 10
last_byte n k b is =
    let whole : List ℕ = decimal (n / 10 ^ suc k) in
    let front : List ℕ = whole ++ 46 ∷ last_digits k (n / 10) in
    let last : ℕ = 48 + n % 10 in
    let parts : b ≡ front ++ last ∷ [] = is ∙ ap (λ (l : List ℕ). whole ++ 46 ∷ l) (last_digits_more k n) ∙ sym (append_assoc whole (46 ∷ last_digits k (n / 10)) (last ∷ [])) in
    let long : length b ≡ length front + 1 = ap length parts ∙ length_push front last in
    ap (λ (l : List ℕ). get_or l (length b - 1) 0) parts ∙ get_or_push front last 0 (length b - 1) (omega (arith, long))

normal_text : (n places : ℕ) (b : List ℕ) → b ≡ decimal_text (pos n, places) → get_or b (length b - 1) 0 ≢ 48 → 0 < places → n % 10 ≢ 0
normal_text n zero b is other some = absurd (omega arith)
normal_text n (suc k) b is other some = λ none. other (last_byte n k b is ∙ ap (λ (r : ℕ). 48 + r) none)

pub plain_text_of : (point : ℕ) (b : List ℕ) → HasDigits point b → point < length b → get_or b point 0 ≡ 46 → 0 < point → point + 1 ≢ length b → length b ≤ 18 → (get_or b 0 0 ≡ 48 → point ≡ 1)
    → get_or b (length b - 1) 0 ≢ 48 → IsDecimalText b
plain_text_of point b digits within is some more short lone other =
    let places : ℕ = length b - point - 1 in
    let t : IsTextOf 18 places b = fixed_text_of 18 places point b digits (omega (arith, within)) is some (omega (arith, within, more)) (omega (arith, short)) (omega (arith, short)) lone in
    in_normal_form places b t (omega (arith, short)) (normal_text t.number places b t.text other)

pub whole_point : (b : List ℕ) (o : Option ℕ) → IfSome o (λ point. HasDigits point b → IsTextOf 18 0 b) → IfSome o (λ point. HasDigits point b → IsDecimalText b)
whole_point b None text = tt
whole_point b (Some point) text = λ digits. in_normal_form 0 b (text digits) (omega arith) (λ some. absurd (omega arith))
