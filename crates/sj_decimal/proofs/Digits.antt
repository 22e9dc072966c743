-- Texts of decimal digits.
use Rattle.std.proofs.Common.{◌≡◌, ℕ, suc, ◌+◌, ◌-◌, ◌<◌, ◌≤◌, true, false, List, [], ◌∷◌, ◌++◌, length, get_or, refl, sym, ap, ◌∙◌, arith, leb, le-leb, leb-true, one-add, suc-ne-zero, take-append-drop, ⊎_elim}
use Rattle.std.proofs.lemmas.Bool.{and_from, and_parts, cond-true, cond-false, cases_Bool}
use Rattle.std.proofs.lemmas.List.Sums.{take_while-cons}
use Rattle.std.specs.List.{prefix_len}
use Rattle.sj_decimal.specs.Reading.{leading_digits, after_digits}
use Rattle.std.specs.Int.{IsInRange}
use Rattle.std.specs.Char.{digit_value, is_ascii_digit}
use Rattle.std.specs.Str.Parse.{AllDigits}
use Rattle.std.proofs.lemmas.Str.{digit_value_digit}
use Rattle.std.proofs.lemmas.Str.Parse.{digit_at, digit_from_value}

pub record IsDigitByte (c : ℕ) : Type 0 where
  pub low : 48 ≤ c
  pub high : c ≤ 57
  pub value : c - 48 ≡ digit_value c

pub digit_byte : (c : ℕ) → digit_value c < 10 → IsDigitByte c
digit_byte c h =
    let r : IsInRange 48 57 c = digit_from_value c h in
    let v : digit_value c + 48 ≡ c = digit_value_digit c r in
    record { low = r.0; high = r.1; value = omega arith }

pub digit_byte_at : (ds : List ℕ) (i : ℕ) → AllDigits 10 ds → i < length ds → IsDigitByte (get_or ds i 0)
digit_byte_at ds i h below =
    let r : IsInRange 48 57 (get_or ds i 0) = digit_at ds i h below in
    let v : digit_value (get_or ds i 0) + 48 ≡ get_or ds i 0 = digit_value_digit (get_or ds i 0) r in
    record { low = r.0; high = r.1; value = omega arith }

-- the test of the code
pub digit_passes : (c : ℕ) → digit_value c < 10 → is_ascii_digit c ≡ true
digit_passes c h =
    let d : IsDigitByte c = digit_byte c h in
    and_from (leb 48 c) (leb c 57) (le-leb 48 c d.low) (le-leb c 57 d.high)

pub digit_passed : (c : ℕ) → is_ascii_digit c ≡ true → digit_value c < 10
digit_passed c e =
    let both : (leb 48 c ≡ true) × (leb c 57 ≡ true) = and_parts (leb 48 c) (leb c 57) e in
    let v : digit_value c + 48 ≡ c = digit_value_digit c (leb-true 48 c both.0, leb-true c 57 both.1) in
    omega (arith, leb-true c 57 both.1)

-- the text does not go on with a digit
abbrev pub StopsDigits : List ℕ → Type 0
StopsDigits [] = Unit {0}
StopsDigits (c ∷ cs) = is_ascii_digit c ≡ false

leading_cons : (c : ℕ) (cs : List ℕ) → is_ascii_digit c ≡ true → leading_digits (c ∷ cs) ≡ c ∷ leading_digits cs
unfolding leading_digits
leading_cons c cs e = take_while-cons is_ascii_digit c cs ∙ cond-true (is_ascii_digit c) _ _ e

after_cons : (c : ℕ) (cs : List ℕ) → is_ascii_digit c ≡ true → after_digits (c ∷ cs) ≡ after_digits cs
unfolding after_digits
after_cons c cs e =
    let count : prefix_len is_ascii_digit (c ∷ cs) ≡ suc (prefix_len is_ascii_digit cs) = cond-true (is_ascii_digit c) _ _ e ∙ one-add (prefix_len is_ascii_digit cs) in
    rw count refl

pub leading_stops : (b : List ℕ) → StopsDigits b → (leading_digits b ≡ []) × (after_digits b ≡ b)
unfolding leading_digits after_digits
leading_stops [] h = (refl, refl)
leading_stops (c ∷ cs) h =
    let none : prefix_len is_ascii_digit (c ∷ cs) ≡ 0 = cond-false (is_ascii_digit c) _ _ h in
    (rw none refl, rw none refl)

-- the digits before what is no digit are all that is read
pub digits_read : (ds rest : List ℕ) → AllDigits 10 ds → StopsDigits rest → (leading_digits (ds ++ rest) ≡ ds) × (after_digits (ds ++ rest) ≡ rest)
digits_read [] rest all h = leading_stops rest h
digits_read (c ∷ cs) rest all h =
    let more : (leading_digits (cs ++ rest) ≡ cs) × (after_digits (cs ++ rest) ≡ rest) = digits_read cs rest all.1 h in
    let yes : is_ascii_digit c ≡ true = digit_passes c all.0 in
    (leading_cons c (cs ++ rest) yes ∙ ap (λ xs. c ∷ xs) more.0, after_cons c (cs ++ rest) yes ∙ more.1)

pub after_all : (ds : List ℕ) → AllDigits 10 ds → after_digits ds ≡ []
after_all [] all = (leading_stops [] tt).1
after_all (c ∷ cs) all = after_cons c cs (digit_passes c all.0) ∙ after_all cs all.1

-- what is read has digits alone, and with what follows it is the text
pub AllDigits-leading : (b : List ℕ) → AllDigits 10 (leading_digits b)
AllDigits-leading [] = rw (leading_stops [] tt).0 tt
AllDigits-leading (c ∷ cs) =
    ⊎_elim
    (λ yes. rw (leading_cons c cs yes) (digit_passed c yes, AllDigits-leading cs))
    (λ no. rw (leading_stops (c ∷ cs) no).0 tt)
    (cases_Bool (is_ascii_digit c))

pub leading-after : (b : List ℕ) → leading_digits b ++ after_digits b ≡ b
unfolding leading_digits after_digits
leading-after b = take-append-drop (prefix_len is_ascii_digit b) b

pub all_from_after : (b : List ℕ) → length (after_digits b) ≡ 0 → AllDigits 10 b
all_from_after [] h = tt
all_from_after (c ∷ cs) h =
    ⊎_elim
    (λ yes. (digit_passed c yes, all_from_after cs (ap length (sym (after_cons c cs yes)) ∙ h)))
    (λ no. absurd (suc-ne-zero (length cs) (ap length (sym (leading_stops (c ∷ cs) no).1) ∙ h)))
    (cases_Bool (is_ascii_digit c))
