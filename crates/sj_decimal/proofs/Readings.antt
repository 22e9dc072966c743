-- The reading from the left finds the parts of each number, and nothing else.
use Rattle.std.proofs.Common.{◌≡◌, ◌≢◌, ℕ, ◌<◌, ◌⊎◌, Bool, true, false, not, ◌||◌, cond, eqb, ltb, List, [], ◌∷◌, ◌++◌, length, get_or, Option, Some, None, refl, sym, ap, ap₂, ◌∙◌, subst, inl, inr, ⊎_elim, arith, ne_eqb, eq-eqb, eqb-true, lt-ltb, ltb-true, lit<}
use borrow.Author.Tests.{eqb-false}
use Rattle.std.specs.Option.{option_map, option_and_then}
use Rattle.std.specs.Char.{digit_value, is_ascii_digit}
use Rattle.std.specs.Str.Parse.{AllDigits, IsNumeral}
use Rattle.std.specs.Fmt.{sign_text}
use Rattle.std.proofs.lemmas.Bool.{cond-true, cond-false, cases_Bool, and_from, and_parts, or_from, or_right, or_left, or_parts, or_cases, not_from_false, not-true, not-false}
use Rattle.sj_decimal.specs.Number.{NumberParts, IsWhole, IsFraction, IsExponentSign, IsWrittenExponent, IsExponent, IsNumberOf, value_of, IsNumber}
use Rattle.sj_decimal.specs.Parts.{HasDigits}
use Rattle.sj_decimal.specs.Parses.{ParsesAs, Evaluates}
use Rattle.sj_decimal.specs.declared.parsing.Parsed.{Parsed}
use Rattle.sj_decimal.specs.declared.parsing.Parsed.TheVariants.{Exact, Wide, NotNumber}
use Rattle.sj_decimal.specs.Reading.{leading_digits, after_digits, read_minus, read_sign, read_fraction, read_exponent, exponent_of_digits, is_whole, read_parts, read_rest, parts_of}
use Rattle.sj_decimal.proofs.Digits.{IsDigitByte, digit_byte, StopsDigits, digits_read, after_all, AllDigits-leading, leading-after, all_from_after}

none_is_not_some : {A : Type 0} {x : A} → ◌≡◌ {A = Option A} None (Some x) → ⊥
none_is_not_some h = cc

some_is : {A : Type 0} {x y : A} → Some x ≡ Some y → x ≡ y
some_is h = cc

-- ---- each number is read

digit_is_not : (c d : ℕ) → digit_value c < 10 → (d < 48) → eqb c d ≡ false
digit_is_not c d h low = let b : IsDigitByte c = digit_byte c h in ne_eqb c d (λ e. absurd (omega (arith, b.low)))

read_sign_full : (n : Bool) (sign ds : List ℕ) → IsExponentSign n sign → IsNumeral 10 ds → read_sign (sign ++ ds) ≡ (n, ds)
read_sign_full true sign ds is all = rw is refl
read_sign_full false sign ds (inr plus) all = rw plus refl
read_sign_full false sign [] (inl none) all = absurd (omega (arith, all.0))
read_sign_full false sign (c ∷ cs) (inl none) all =
    rw none (cond-false (eqb c 45) _ _ (digit_is_not c 45 all.1.0 (lit< tt)) ∙ cond-false (eqb c 43) _ _ (digit_is_not c 43 all.1.0 (lit< tt)))

exponent_digits_full : (n : Bool) (ds : List ℕ) → IsNumeral 10 ds → exponent_of_digits (n, ds) ≡ Some (n, ds)
exponent_digits_full n ds all =
    let some : eqb (length ds) 0 ≡ false = ne_eqb (length ds) 0 (λ e. absurd (omega (arith, all.0))) in
    let rest : not (eqb (length (after_digits ds)) 0) ≡ false = rw (after_all ds all.1) refl in
    cond-false _ _ _ (or_from (eqb (length ds) 0) (not (eqb (length (after_digits ds)) 0)) some rest)

-- the byte that begins an exponent
abbrev IsMark : ℕ → Type 0
IsMark c = (c ≡ 101) ⊎ (c ≡ 69)

mark_passes : (c : ℕ) → IsMark c → (eqb c 101 || eqb c 69) ≡ true
mark_passes c (inl e) = or_left (eqb c 101) (eqb c 69) (eq-eqb c 101 e)
mark_passes c (inr e) = or_right (eqb c 101) (eqb c 69) (eq-eqb c 69 e)

mark_is_no_digit : (c : ℕ) → IsMark c → is_ascii_digit c ≡ false
mark_is_no_digit c (inl e) = ap is_ascii_digit e
mark_is_no_digit c (inr e) = ap is_ascii_digit e

mark_is_no_point : (c : ℕ) → IsMark c → eqb c 46 ≡ false
mark_is_no_point c (inl e) = ap (λ k. eqb k 46) e
mark_is_no_point c (inr e) = ap (λ k. eqb k 46) e

read_written_full : (n : Bool) (ds b : List ℕ) → IsWrittenExponent n ds b → read_exponent b ≡ Some (n, ds)
read_written_full n ds b h =
    let tail : exponent_of_digits (read_sign (h.sign ++ ds)) ≡ Some (n, ds) =
    ap exponent_of_digits (read_sign_full n h.sign ds h.is_sign h.digits) ∙ exponent_digits_full n ds h.digits in
    ap read_exponent h.text ∙ cond-true _ _ _ (mark_passes h.mark h.is_mark) ∙ tail

read_exponent_full : (n : Bool) (ds b : List ℕ) → IsExponent n ds b → read_exponent b ≡ Some (n, ds)
read_exponent_full n ds b (inl h) = rw (h.2, h.0, h.1) refl
read_exponent_full n ds b (inr h) = read_written_full n ds b h

-- what follows the fraction is no digit and no point
stops_exponent : (n : Bool) (ds b : List ℕ) → IsExponent n ds b → StopsDigits b
stops_exponent n ds b (inl h) = rw h.2 tt
stops_exponent n ds b (inr h) = rw h.text (mark_is_no_digit h.mark h.is_mark)

read_no_fraction : (n : Bool) (ds b : List ℕ) → IsExponent n ds b → read_fraction b ≡ Some ([], b)
read_no_fraction n ds b (inl h) = rw h.2 refl
read_no_fraction n ds b (inr h) = rw h.text (cond-false _ _ _ (mark_is_no_point h.mark h.is_mark))

read_fraction_full : (n : Bool) (ds f t b : List ℕ) → IsFraction f t → IsExponent n ds b → read_fraction (t ++ b) ≡ Some (f, b)
read_fraction_full n ds f t b (inl h) e = rw (h.1, h.0) (read_no_fraction n ds b e)
read_fraction_full n ds f t b (inr h) e =
    let read : (leading_digits (f ++ b) ≡ f) × (after_digits (f ++ b) ≡ b) = digits_read f b h.0.1 (stops_exponent n ds b e) in
    rw (h.1, read.0, read.1) (cond-false _ _ _ (ne_eqb (length f) 0 (λ none. absurd (omega (arith, h.0.0)))))

stops_after_whole : (n : Bool) (ds f t b : List ℕ) → IsFraction f t → IsExponent n ds b → StopsDigits (t ++ b)
stops_after_whole n ds f t b (inl h) e = rw h.1 (stops_exponent n ds b e)
stops_after_whole n ds f t b (inr h) e = rw h.1 refl

read_minus_full : (n : Bool) (w rest : List ℕ) → IsWhole w → read_minus (sign_text n ++ (w ++ rest)) ≡ (n, w ++ rest)
read_minus_full true w rest h = refl
read_minus_full false [] rest h = absurd (omega (arith, h.0.0))
read_minus_full false (c ∷ cs) rest h = cond-false (eqb c 45) _ _ (digit_is_not c 45 h.0.1.0 (lit< tt))

is_whole_full : (w : List ℕ) → IsWhole w → is_whole w ≡ true
is_whole_full [] h = absurd (omega (arith, h.0.0))
is_whole_full (c ∷ []) h = refl
is_whole_full (c ∷ d ∷ ds) h =
    and_from (ltb 0 (length (c ∷ d ∷ ds))) _ (lt-ltb 0 (length (c ∷ d ∷ ds)) h.0.0)
    (or_right (eqb (length (c ∷ d ∷ ds)) 1) _ (not_from_false (eqb c 48) (ne_eqb c 48 (h.1 (omega arith)))))

read_parts_from : (b rest w t : List ℕ) (n : Bool) → read_minus b ≡ (n, rest) → leading_digits rest ≡ w → after_digits rest ≡ t → is_whole w ≡ true → read_parts b ≡ read_rest n w t
unfolding read_parts
read_parts_from b rest w t n minus front back whole =
    rw (minus, front, back) (cond-true (is_whole w) _ _ whole)

read_rest_from : (n m : Bool) (w t f b ds : List ℕ) → read_fraction t ≡ Some (f, b) → read_exponent b ≡ Some (m, ds) → read_rest n w t ≡ Some (parts_of n w f (m, ds))
unfolding read_rest
read_rest_from n m w t f b ds fraction exponent = rw (fraction, exponent) refl

pub read_parts_full : (p : NumberParts) (b : List ℕ) → IsNumberOf p b → read_parts b ≡ Some p
read_parts_full p b h =
    let rest : List ℕ = h.fraction_text ++ h.exponent_text in
    let minus : read_minus b ≡ (p.negative, p.whole ++ rest) = ap read_minus h.text ∙ read_minus_full p.negative p.whole rest h.whole in
    let read : (leading_digits (p.whole ++ rest) ≡ p.whole) × (after_digits (p.whole ++ rest) ≡ rest) =
    digits_read p.whole rest h.whole.0.1 (stops_after_whole p.exponent_negative p.exponent p.fraction h.fraction_text h.exponent_text h.fraction h.exponent) in
    read_parts_from b (p.whole ++ rest) p.whole rest p.negative minus read.0 read.1 (is_whole_full p.whole h.whole)
    ∙ read_rest_from p.negative p.exponent_negative p.whole rest p.fraction h.exponent_text p.exponent
    (read_fraction_full p.exponent_negative p.exponent p.fraction h.fraction_text h.exponent_text h.fraction h.exponent)
    (read_exponent_full p.exponent_negative p.exponent h.exponent_text h.exponent)

-- ---- what is read is a number

read_minus_sound : (b : List ℕ) → b ≡ sign_text (read_minus b).0 ++ (read_minus b).1
read_minus_sound [] = refl
read_minus_sound (c ∷ cs) =
    ⊎_elim
    (λ e. rw (cond-true {A = Bool × List ℕ} (eqb c 45) (true, cs) (false, c ∷ cs) e) (ap (λ k. k ∷ cs) (eqb-true c 45 e)))
    (λ e. rw (cond-false {A = Bool × List ℕ} (eqb c 45) (true, cs) (false, c ∷ cs) e) refl)
    (cases_Bool (eqb c 45))

-- the sign of an exponent, and what follows it
record ReadsSign (b : List ℕ) (r : Bool × List ℕ) : Type 0 where
  sign : List ℕ
  is_sign : IsExponentSign r.0 sign
  text : b ≡ sign ++ r.1

read_sign_sound : (b : List ℕ) → ReadsSign b (read_sign b)
read_sign_sound [] = record { sign = []; is_sign = inl refl; text = refl }
read_sign_sound (c ∷ cs) =
    ⊎_elim
    (λ e. rw (cond-true {A = Bool × List ℕ} (eqb c 45) (true, cs) (cond {A = Bool × List ℕ} (eqb c 43) (false, cs) (false, c ∷ cs)) e)
    (record { sign = 45 ∷ []; is_sign = refl; text = ap (λ k. k ∷ cs) (eqb-true c 45 e) }))
    (λ e. rw (cond-false {A = Bool × List ℕ} (eqb c 45) (true, cs) (cond {A = Bool × List ℕ} (eqb c 43) (false, cs) (false, c ∷ cs)) e)
    (⊎_elim
    (λ d. rw (cond-true {A = Bool × List ℕ} (eqb c 43) (false, cs) (false, c ∷ cs) d)
    (record { sign = 43 ∷ []; is_sign = inr refl; text = ap (λ k. k ∷ cs) (eqb-true c 43 d) }))
    (λ d. rw (cond-false {A = Bool × List ℕ} (eqb c 43) (false, cs) (false, c ∷ cs) d)
    (record { sign = []; is_sign = inl refl; text = refl }))
    (cases_Bool (eqb c 43))))
    (cases_Bool (eqb c 45))

exponent_digits_sound : (e : Bool × List ℕ) (n : Bool) (ds : List ℕ) → exponent_of_digits e ≡ Some (n, ds) → (e ≡ (n, ds)) × IsNumeral 10 e.1
exponent_digits_sound e n ds h =
    ⊎_elim
    (λ bad. absurd (none_is_not_some (sym (cond-true _ None (Some e) bad) ∙ h)))
    (λ good.
    let both : (eqb (length e.1) 0 ≡ false) × (not (eqb (length (after_digits e.1)) 0) ≡ false) =
    or_parts (eqb (length e.1) 0) (not (eqb (length (after_digits e.1)) 0)) good in
    let same : Some e ≡ Some (n, ds) = sym (cond-false _ None (Some e) good) ∙ h in
    let some : length e.1 ≢ 0 = eqb-false (length e.1) 0 both.0 in
    (some_is same, (omega (arith, some), all_from_after e.1 (eqb-true (length (after_digits e.1)) 0 (not-false _ both.1)))))
    (cases_Bool ((eqb (length e.1) 0) || not (eqb (length (after_digits e.1)) 0)))

mark_cases : (c : ℕ) → (eqb c 101 || eqb c 69) ≡ true → (c ≡ 101) ⊎ (c ≡ 69)
mark_cases c h = ⊎_elim (λ e. inl (eqb-true c 101 e)) (λ e. inr (eqb-true c 69 e)) (or_cases (eqb c 101) (eqb c 69) h)

read_exponent_sound : (b : List ℕ) (n : Bool) (ds : List ℕ) → read_exponent b ≡ Some (n, ds) → IsExponent n ds b
read_exponent_sound [] n ds h =
    let same : ◌≡◌ {A = Bool × List ℕ} (false, []) (n, ds) = some_is h in
    inl (sym (ap (λ p. p.0) same), sym (ap (λ p. p.1) same), refl)
read_exponent_sound (c ∷ cs) n ds h =
    ⊎_elim
    (λ mark.
    let read : exponent_of_digits (read_sign cs) ≡ Some (n, ds) = sym (cond-true _ (exponent_of_digits (read_sign cs)) None mark) ∙ h in
    let digits : (read_sign cs ≡ (n, ds)) × IsNumeral 10 (read_sign cs).1 = exponent_digits_sound (read_sign cs) n ds read in
    let sign : ReadsSign cs (n, ds) = subst (ReadsSign cs) digits.0 (read_sign_sound cs) in
    let all : IsNumeral 10 ds = subst (λ (p : Bool × List ℕ). IsNumeral 10 p.1) digits.0 digits.1 in
    inr (record { mark = c; sign = sign.sign; is_mark = mark_cases c mark; is_sign = sign.is_sign; digits = all; text = ap (λ xs. c ∷ xs) sign.text }))
    (λ other. absurd (none_is_not_some (sym (cond-false _ (exponent_of_digits (read_sign cs)) None other) ∙ h)))
    (cases_Bool (eqb c 101 || eqb c 69))

-- the fraction, and what follows it
record ReadsFraction (f b t : List ℕ) : Type 0 where
  fraction_text : List ℕ
  fraction : IsFraction f fraction_text
  text : t ≡ fraction_text ++ b

abbrev fraction_of_digits : List ℕ → Option (List ℕ × List ℕ)
fraction_of_digits cs = Some (leading_digits cs, after_digits cs)

fraction_digits_sound : (cs f b : List ℕ) → cond (eqb (length (leading_digits cs)) 0) None (fraction_of_digits cs) ≡ Some (f, b) → ReadsFraction f b (46 ∷ cs)
fraction_digits_sound cs f b h =
    ⊎_elim
    (λ none. absurd (none_is_not_some (sym (cond-true _ None (fraction_of_digits cs) none) ∙ h)))
    (λ some.
    let same : ◌≡◌ {A = List ℕ × List ℕ} (leading_digits cs, after_digits cs) (f, b) = some_is (sym (cond-false _ None (fraction_of_digits cs) some) ∙ h) in
    let front : leading_digits cs ≡ f = ap (λ p. p.0) same in
    let back : after_digits cs ≡ b = ap (λ p. p.1) same in
    let nonempty : length (leading_digits cs) ≢ 0 = eqb-false (length (leading_digits cs)) 0 some in
    record {
      fraction_text = 46 ∷ f;
      fraction = inr ((rw (← front) (omega (arith, nonempty)), rw (← front) (AllDigits-leading cs)), refl);
      text = ap (λ xs. 46 ∷ xs) (sym (leading-after cs) ∙ ap₂ (λ xs ys. xs ++ ys) front back);
    })
    (cases_Bool (eqb (length (leading_digits cs)) 0))

read_fraction_sound : (t f b : List ℕ) → read_fraction t ≡ Some (f, b) → ReadsFraction f b t
read_fraction_sound [] f b h =
    let same : ◌≡◌ {A = List ℕ × List ℕ} ([], []) (f, b) = some_is h in
    record { fraction_text = []; fraction = inl (sym (ap (λ p. p.0) same), refl); text = ap (λ p. p.1) same }
read_fraction_sound (c ∷ cs) f b h =
    ⊎_elim
    (λ e. rw (eqb-true c 46 e) (fraction_digits_sound cs f b (sym (cond-true (eqb c 46) _ _ e) ∙ h)))
    (λ e.
    let same : ◌≡◌ {A = List ℕ × List ℕ} ([], c ∷ cs) (f, b) = some_is (sym (cond-false (eqb c 46) _ _ e) ∙ h) in
    record { fraction_text = []; fraction = inl (sym (ap (λ p. p.0) same), refl); text = ap (λ p. p.1) same })
    (cases_Bool (eqb c 46))

is_whole_sound : (w : List ℕ) → is_whole w ≡ true → AllDigits 10 w → IsWhole w
is_whole_sound w h all =
    let both : (ltb 0 (length w) ≡ true) × (((eqb (length w) 1) || not (eqb (get_or w 0 0) 48)) ≡ true) =
    and_parts (ltb 0 (length w)) ((eqb (length w) 1) || not (eqb (get_or w 0 0) 48)) h in (
      (ltb-true 0 (length w) both.0, all),
      λ more zero_first. ⊎_elim
          (λ one. absurd (omega (arith, eqb-true (length w) 1 one)))
          (λ other. absurd (eqb-false (get_or w 0 0) 48 (not-true _ other) zero_first))
          (or_cases (eqb (length w) 1) (not (eqb (get_or w 0 0) 48)) both.1),
    )

-- what was read after the sign and the whole digits
record ReadsRest (n : Bool) (w t : List ℕ) (p : NumberParts) : Type 0 where
  negative : p.negative ≡ n
  whole : p.whole ≡ w
  rest : List ℕ
  fraction : ReadsFraction p.fraction rest t
  exponent : IsExponent p.exponent_negative p.exponent rest

read_exponent_of : (n : Bool) (w t f b : List ℕ) (p : NumberParts) (o : Option (Bool × List ℕ)) → read_exponent b ≡ o → ReadsFraction f b t → option_map (parts_of n w f) o ≡ Some p → ReadsRest n w t p
read_exponent_of n w t f b p None e h bad = absurd (none_is_not_some bad)
read_exponent_of n w t f b p (Some x) e h good =
    let same : parts_of n w f x ≡ p = some_is good in
    rw (← same) (record { negative = refl; whole = refl; rest = b; fraction = h; exponent = read_exponent_sound b x.0 x.1 e })

read_fraction_of : (n : Bool) (w t : List ℕ) (p : NumberParts) (o : Option (List ℕ × List ℕ)) → read_fraction t ≡ o
    → option_and_then (λ (f : List ℕ × List ℕ). option_map (parts_of n w f.0) (read_exponent f.1)) o ≡ Some p → ReadsRest n w t p
read_fraction_of n w t p None e bad = absurd (none_is_not_some bad)
read_fraction_of n w t p (Some x) e good = read_exponent_of n w t x.0 x.1 p (read_exponent x.1) refl (read_fraction_sound t x.0 x.1 e) good

read_rest_sound : (n : Bool) (w t : List ℕ) (p : NumberParts) → read_rest n w t ≡ Some p → ReadsRest n w t p
unfolding read_rest
read_rest_sound n w t p h = read_fraction_of n w t p (read_fraction t) refl h

number_from_rest : (b rest w t : List ℕ) (n : Bool) (p : NumberParts) → b ≡ sign_text n ++ rest → rest ≡ w ++ t → is_whole w ≡ true → AllDigits 10 w → ReadsRest n w t p → IsNumberOf p b
number_from_rest b rest w t n p sign front whole all r =
    record {
      fraction_text = r.fraction.fraction_text;
      exponent_text = r.rest;
      whole = subst IsWhole (sym r.whole) (is_whole_sound w whole all);
      fraction = r.fraction.fraction;
      exponent = r.exponent;
      text = sign ∙ ap₂ (λ (x y : List ℕ). x ++ y) (ap sign_text (sym r.negative)) (front ∙ ap₂ (λ (x y : List ℕ). x ++ y) (sym r.whole) r.fraction.text);
    }

pub read_parts_sound : (b : List ℕ) (p : NumberParts) → read_parts b ≡ Some p → IsNumberOf p b
unfolding read_parts
read_parts_sound b p h =
    let m : Bool × List ℕ = read_minus b in
    ⊎_elim
    (λ good.
    let r : ReadsRest m.0 (leading_digits m.1) (after_digits m.1) p =
    read_rest_sound m.0 (leading_digits m.1) (after_digits m.1) p (sym (cond-true (is_whole (leading_digits m.1)) _ _ good) ∙ h) in
    number_from_rest b m.1 (leading_digits m.1) (after_digits m.1) m.0 p (read_minus_sound b) (sym (leading-after m.1)) good (AllDigits-leading m.1) r)
    (λ bad. absurd (none_is_not_some (sym (cond-false (is_whole (leading_digits m.1)) _ _ bad) ∙ h)))
    (cases_Bool (is_whole (leading_digits m.1)))

-- a text has at most one way to be cut
pub one_cut : (p q : NumberParts) (b : List ℕ) → IsNumberOf p b → IsNumberOf q b → p ≡ q
one_cut p q b h k = some_is (sym (read_parts_full p b h) ∙ read_parts_full q b k)

-- ---- what `parse` needs

fraction_digits : (f t : List ℕ) → IsFraction f t → AllDigits 10 f
fraction_digits f t (inl h) = rw h.0 tt
fraction_digits f t (inr h) = h.0.1

exponent_digits : (n : Bool) (ds t : List ℕ) → IsExponent n ds t → AllDigits 10 ds
exponent_digits n ds t (inl h) = rw h.1 tt
exponent_digits n ds t (inr h) = h.digits.1

pub has_digits : (b : List ℕ) (p : NumberParts) → read_parts b ≡ Some p → HasDigits p
has_digits b p e =
    let h : IsNumberOf p b = read_parts_sound b p e in
    record {
      whole = h.whole.0.1;
      fraction = fraction_digits p.fraction h.fraction_text h.fraction;
      exponent = exponent_digits p.exponent_negative p.exponent h.exponent_text h.exponent;
    }

pub not_number : (b : List ℕ) → read_parts b ≡ None → ¬ (IsNumber b)
not_number b e (v, h) = none_is_not_some (sym e ∙ read_parts_full h.parts b h.number)

pub parses : (b : List ℕ) (p : NumberParts) (r : Parsed) → read_parts b ≡ Some p → Evaluates (value_of p) r → ParsesAs b r
parses b p (Exact d) e h = record { value = value_of p; spells = record { parts = p; number = read_parts_sound b p e; value = refl }; exact = h.0; normal_form = h.1 }
parses b p Wide e h = record { value = value_of p; spells = record { parts = p; number = read_parts_sound b p e; value = refl }; wide = h }
parses b p NotNumber e h = absurd h
