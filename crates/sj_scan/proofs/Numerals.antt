-- The bytes that are taken one by one are a number exactly if the whole of them is one.
use Rattle.std.proofs.Common.{◌≡◌, ℕ, ◌<◌, ◌⊎◌, inl, inr, ⊎_elim, Bool, true, false, cond, ◌||◌, eqb, List, [], ◌∷◌, ◌++◌, Option, Some, None, refl, sym, ap, ◌∙◌, subst, arith, ne_eqb, eq-eqb, eqb-true}
use Rattle.std.specs.Char.{digit_value, is_ascii_digit}
use Rattle.std.specs.Str.Parse.{AllDigits, IsNumeral}
use Rattle.std.specs.Fmt.{sign_text}
use Rattle.std.proofs.lemmas.Bool.{cond-true, cond-false, cases_Bool, or_cases}
use Rattle.sj_decimal.specs.Number.{NumberParts, IsWhole, IsFraction, IsExponentSign, IsWrittenExponent, IsExponent, value_of, IsNumber}
use Rattle.sj_decimal.proofs.Digits.{digit_passes, digit_passed, IsDigitByte, digit_byte}
use Rattle.sj_json.specs.Tree.{Number}
use Rattle.sj_json.specs.Numbers.{number_of}
use Rattle.sj_json.proofs.Numbers.{number_some, number_none}
use Rattle.sj_scan.specs.declared.numeral.Numeral.{Numeral}
use Rattle.sj_scan.specs.declared.numeral.Numeral.TheVariants.{Nothing, Minus, Zero, Whole, Point, Fraction, Mark, Sign, Exponent}
use Rattle.sj_scan.specs.Numerals.{first_digit, exponent_mark, behind_whole, digit_of, numeral_step, numeral_then, numeral_after, ends}

pub numeral_append : (o : Option Numeral) (x y : List ℕ) → numeral_after o (x ++ y) ≡ numeral_after (numeral_after o x) y
numeral_append o [] y = refl
numeral_append o (b ∷ x) y = numeral_append (numeral_then o b) x y

pub numeral_none : (bs : List ℕ) → numeral_after None bs ≡ None
numeral_none [] = refl
numeral_none (b ∷ bs) = numeral_none bs

-- ---- each number is taken

on : (o : Option Numeral) (x y : List ℕ) (p : Option Numeral) → numeral_after o x ≡ p → numeral_after o (x ++ y) ≡ numeral_after p y
on o x y p e = numeral_append o x y ∙ ap (λ (q : Option Numeral). numeral_after q y) e

-- a state that digits keep
stays : (q : Numeral) → ((b : ℕ) → is_ascii_digit b ≡ true → numeral_step q b ≡ Some q) → (ds : List ℕ) → AllDigits 10 ds → numeral_after (Some q) ds ≡ Some q
stays q step [] all = refl
stays q step (d ∷ ds) all = ap (λ (o : Option Numeral). numeral_after o ds) (step d (digit_passes d all.0)) ∙ stays q step ds all.1

-- digits, of which there is one at least
digits_from : (q r : Numeral) → ((b : ℕ) → is_ascii_digit b ≡ true → numeral_step q b ≡ Some r) → ((b : ℕ) → is_ascii_digit b ≡ true → numeral_step r b ≡ Some r) → (ds : List ℕ) → IsNumeral 10 ds
    → numeral_after (Some q) ds ≡ Some r
digits_from q r first step [] all = absurd (omega (arith, all.0))
digits_from q r first step (d ∷ ds) all = ap (λ (o : Option Numeral). numeral_after o ds) (first d (digit_passes d all.1.0)) ∙ stays r step ds all.1.1

more_whole : (b : ℕ) → is_ascii_digit b ≡ true → numeral_step Whole b ≡ Some Whole
more_whole b h = cond-true (is_ascii_digit b) _ _ h

more_fraction : (b : ℕ) → is_ascii_digit b ≡ true → numeral_step Fraction b ≡ Some Fraction
more_fraction b h = cond-true (is_ascii_digit b) _ _ h

first_fraction : (b : ℕ) → is_ascii_digit b ≡ true → numeral_step Point b ≡ Some Fraction
first_fraction b h = cond-true (is_ascii_digit b) _ _ h

more_exponent : (b : ℕ) → is_ascii_digit b ≡ true → numeral_step Exponent b ≡ Some Exponent
more_exponent b h = cond-true (is_ascii_digit b) _ _ h

after_sign : (b : ℕ) → is_ascii_digit b ≡ true → numeral_step Sign b ≡ Some Exponent
after_sign b h = cond-true (is_ascii_digit b) _ _ h

digit_is_not : (c d : ℕ) → digit_value c < 10 → (d < 48) → eqb c d ≡ false
digit_is_not c d h low = let b : IsDigitByte c = digit_byte c h in ne_eqb c d (λ e. absurd (omega (arith, b.low)))

-- a digit straight behind the mark
unsigned_exponent : (ds : List ℕ) → IsNumeral 10 ds → numeral_after (Some Mark) ds ≡ Some Exponent
unsigned_exponent [] all = absurd (omega (arith, all.0))
unsigned_exponent (d ∷ ds) all =
    ap (λ (o : Option Numeral). numeral_after o ds)
    (cond-false (eqb d 43 || eqb d 45) _ _ (or_false (eqb d 43) (eqb d 45) (digit_is_not d 43 all.1.0 (omega arith)) (digit_is_not d 45 all.1.0 (omega arith)))
    ∙ cond-true (is_ascii_digit d) _ _ (digit_passes d all.1.0))
    ∙ stays Exponent more_exponent ds all.1.1
  where
    or_false : (x y : Bool) → x ≡ false → y ≡ false → (x || y) ≡ false
    or_false x y p q = cc

signed_exponent : (n : Bool) (sign ds : List ℕ) → IsExponentSign n sign → IsNumeral 10 ds → numeral_after (Some Mark) (sign ++ ds) ≡ Some Exponent
signed_exponent true sign ds is all = ap (λ (s : List ℕ). numeral_after (Some Mark) (s ++ ds)) is ∙ digits_from Sign Exponent after_sign more_exponent ds all
signed_exponent false sign ds (inr plus) all = ap (λ (s : List ℕ). numeral_after (Some Mark) (s ++ ds)) plus ∙ digits_from Sign Exponent after_sign more_exponent ds all
signed_exponent false sign ds (inl none) all = ap (λ (s : List ℕ). numeral_after (Some Mark) (s ++ ds)) none ∙ unsigned_exponent ds all

marked : (q : Numeral) → ((c : ℕ) → (c ≡ 101) ⊎ (c ≡ 69) → numeral_step q c ≡ Some Mark) → (n : Bool) (ds b : List ℕ) → IsWrittenExponent n ds b → numeral_after (Some q) b ≡ Some Exponent
marked q mark n ds b h =
    ap (numeral_after (Some q)) h.text ∙ ap (λ (o : Option Numeral). numeral_after o (h.sign ++ ds)) (mark h.mark h.is_mark) ∙ signed_exponent n h.sign ds h.is_sign h.digits

-- the states behind whole digits and behind a fraction
pub data Ends : Numeral → Type 0 where
  at_zero : Ends Zero
  at_whole : Ends Whole
  at_fraction : Ends Fraction

marks : (q : Numeral) → Ends q → (c : ℕ) → (c ≡ 101) ⊎ (c ≡ 69) → numeral_step q c ≡ Some Mark
marks q at_zero c (inl e) = ap (numeral_step Zero) e
marks q at_zero c (inr e) = ap (numeral_step Zero) e
marks q at_whole c (inl e) = ap (numeral_step Whole) e
marks q at_whole c (inr e) = ap (numeral_step Whole) e
marks q at_fraction c (inl e) = ap (numeral_step Fraction) e
marks q at_fraction c (inr e) = ap (numeral_step Fraction) e

abbrev EndsAfter : Option Numeral → List ℕ → Type 0
EndsAfter o b = ends (numeral_after o b) ≡ true

exponent_taken : (q : Numeral) → Ends q → (n : Bool) (ds b : List ℕ) → IsExponent n ds b → EndsAfter (Some q) b
exponent_taken q at_zero n ds b (inl h) = ap (λ (x : List ℕ). ends (numeral_after (Some Zero) x)) h.2
exponent_taken q at_whole n ds b (inl h) = ap (λ (x : List ℕ). ends (numeral_after (Some Whole) x)) h.2
exponent_taken q at_fraction n ds b (inl h) = ap (λ (x : List ℕ). ends (numeral_after (Some Fraction) x)) h.2
exponent_taken q at_zero n ds b (inr h) = ap ends (marked Zero (marks Zero at_zero) n ds b h)
exponent_taken q at_whole n ds b (inr h) = ap ends (marked Whole (marks Whole at_whole) n ds b h)
exponent_taken q at_fraction n ds b (inr h) = ap ends (marked Fraction (marks Fraction at_fraction) n ds b h)

fraction_taken : (q : Numeral) → Ends q → numeral_step q 46 ≡ Some Point → (n : Bool) (ds f t b : List ℕ) → IsFraction f t → IsExponent n ds b → EndsAfter (Some q) (t ++ b)
fraction_taken q is point n ds f t b (inl h) e = subst (λ (x : List ℕ). EndsAfter (Some q) (x ++ b)) (sym h.1) (exponent_taken q is n ds b e)
fraction_taken q is point n ds f t b (inr h) e =
    ap (λ (x : List ℕ). ends (numeral_after (Some q) (x ++ b))) h.1
    ∙ ap ends (ap (λ (o : Option Numeral). numeral_after o (f ++ b)) point ∙ on (Some Point) f b (Some Fraction) (digits_from Point Fraction first_fraction more_fraction f h.0))
    ∙ exponent_taken Fraction at_fraction n ds b e

first_is : (c : ℕ) → is_ascii_digit c ≡ true → eqb c 48 ≡ false → first_digit c ≡ Some Whole
first_is c d z = cond-false (eqb c 48) _ _ z ∙ cond-true (is_ascii_digit c) _ _ d

-- whole digits, from a state in which they may begin
whole_taken : (q : Numeral) → ((b : ℕ) → is_ascii_digit b ≡ true → numeral_step q b ≡ first_digit b) → (n : Bool) (w ds f t b : List ℕ) → IsWhole w → IsFraction f t → IsExponent n ds b
    → EndsAfter (Some q) (w ++ (t ++ b))
whole_taken q begins n [] ds f t b h k e = absurd (omega (arith, h.0.0))
whole_taken q begins n (c ∷ []) ds f t b h k e =
    ⊎_elim
    (λ z. ap (λ (o : Option Numeral). ends (numeral_after o (t ++ b))) (begins c (digit_passes c h.0.1.0) ∙ cond-true (eqb c 48) _ _ z) ∙ fraction_taken Zero at_zero refl n ds f t b k e)
    (λ z. ap (λ (o : Option Numeral). ends (numeral_after o (t ++ b))) (begins c (digit_passes c h.0.1.0) ∙ first_is c (digit_passes c h.0.1.0) z) ∙ fraction_taken Whole at_whole refl n ds f t b k e)
    (cases_Bool (eqb c 48))
whole_taken q begins n (c ∷ d ∷ w) ds f t b h k e =
    ap (λ (o : Option Numeral). ends (numeral_after o ((d ∷ w) ++ (t ++ b)))) (begins c (digit_passes c h.0.1.0) ∙ first_is c (digit_passes c h.0.1.0) (ne_eqb c 48 (h.1 (omega arith))))
    ∙ ap ends (on (Some Whole) (d ∷ w) (t ++ b) (Some Whole) (stays Whole more_whole (d ∷ w) h.0.1.1))
    ∙ fraction_taken Whole at_whole refl n ds f t b k e

from_nothing : (b : ℕ) → is_ascii_digit b ≡ true → numeral_step Nothing b ≡ first_digit b
from_nothing b h = cond-false (eqb b 45) _ _ (digit_is_not b 45 (digit_passed b h) (omega arith))

signed_taken : (s n : Bool) (w ds f t b : List ℕ) → IsWhole w → IsFraction f t → IsExponent n ds b → EndsAfter (Some Nothing) (sign_text s ++ (w ++ (t ++ b)))
signed_taken true n w ds f t b h k e = whole_taken Minus (λ c d. refl) n w ds f t b h k e
signed_taken false n w ds f t b h k e = whole_taken Nothing from_nothing n w ds f t b h k e

number_taken : (b : List ℕ) → IsNumber b → EndsAfter (Some Nothing) b
number_taken b h =
    let n = h.1.number in
    let p = h.1.parts in
    subst (EndsAfter (Some Nothing)) (sym n.text) (signed_taken p.negative p.exponent_negative p.whole p.exponent p.fraction n.fraction_text n.exponent_text n.whole n.fraction n.exponent)

-- ---- what is taken to its end is a number

nothing_ends : (bs : List ℕ) → EndsAfter None bs → ⊥
nothing_ends bs h = let e : ends (numeral_after None bs) ≡ false = ap ends (numeral_none bs) in let f : true ≡ false = sym h ∙ e in cc

taken_if : (x : Bool) (s t : Option Numeral) (bs : List ℕ) → x ≡ true → EndsAfter (cond x s t) bs → EndsAfter s bs
taken_if x s t bs e h = subst (λ (o : Option Numeral). EndsAfter o bs) (cond-true x s t e) h

taken_else : (x : Bool) (s t : Option Numeral) (bs : List ℕ) → x ≡ false → EndsAfter (cond x s t) bs → EndsAfter t bs
taken_else x s t bs e h = subst (λ (o : Option Numeral). EndsAfter o bs) (cond-false x s t e) h

by_digit : {P : Type 0} (b : ℕ) (s t : Option Numeral) (bs : List ℕ) → EndsAfter (cond (is_ascii_digit b) s t) bs → (digit_value b < 10 → EndsAfter s bs → P) → (EndsAfter t bs → P) → P
by_digit b s t bs h digit other =
    ⊎_elim (λ e. digit (digit_passed b e) (taken_if (is_ascii_digit b) s t bs e h)) (λ e. other (taken_else (is_ascii_digit b) s t bs e h)) (cases_Bool (is_ascii_digit b))

exponent_digits : (bs : List ℕ) → EndsAfter (Some Exponent) bs → AllDigits 10 bs
exponent_digits [] h = tt
exponent_digits (b ∷ bs) h = by_digit b (Some Exponent) None bs h (λ d k. (d, exponent_digits bs k)) (λ k. absurd (nothing_ends bs k))

signed_digits : (bs : List ℕ) → EndsAfter (Some Sign) bs → IsNumeral 10 bs
signed_digits [] h = cc
signed_digits (b ∷ bs) h = by_digit b (Some Exponent) None bs h (λ d k. (omega arith, (d, exponent_digits bs k))) (λ k. absurd (nothing_ends bs k))

record SignedDigits (bs : List ℕ) : Type 0 where
  negative : Bool
  sign : List ℕ
  digits : List ℕ
  is_sign : IsExponentSign negative sign
  are_digits : IsNumeral 10 digits
  text : bs ≡ sign ++ digits

marked_digits : (bs : List ℕ) → EndsAfter (Some Mark) bs → SignedDigits bs
marked_digits [] h = cc
marked_digits (b ∷ bs) h =
    ⊎_elim
    (λ e. let k : EndsAfter (Some Sign) bs = taken_if (eqb b 43 || eqb b 45) (Some Sign) (digit_of Exponent b) bs e h in
    ⊎_elim
    (λ plus. record { negative = false; sign = 43 ∷ []; digits = bs; is_sign = inr refl; are_digits = signed_digits bs k; text = ap (λ (c : ℕ). c ∷ bs) (eqb-true b 43 plus) })
    (λ minus. record { negative = true; sign = 45 ∷ []; digits = bs; is_sign = refl; are_digits = signed_digits bs k; text = ap (λ (c : ℕ). c ∷ bs) (eqb-true b 45 minus) })
    (or_cases (eqb b 43) (eqb b 45) e))
    (λ e. by_digit b (Some Exponent) None bs (taken_else (eqb b 43 || eqb b 45) (Some Sign) (digit_of Exponent b) bs e h)
    (λ d k. record { negative = false; sign = []; digits = b ∷ bs; is_sign = inl refl; are_digits = (omega arith, (d, exponent_digits bs k)); text = refl })
    (λ k. absurd (nothing_ends bs k)))
    (cases_Bool (eqb b 43 || eqb b 45))

record ExponentPart (bs : List ℕ) : Type 0 where
  negative : Bool
  digits : List ℕ
  is : IsExponent negative digits bs

no_exponent : ExponentPart []
no_exponent = record { negative = false; digits = []; is = inl (refl, refl, refl) }

mark_exponent : (b : ℕ) (bs : List ℕ) → EndsAfter (exponent_mark b) bs → ExponentPart (b ∷ bs)
mark_exponent b bs h =
    ⊎_elim
    (λ e. let s : SignedDigits bs = marked_digits bs (taken_if (eqb b 101 || eqb b 69) (Some Mark) None bs e h) in
    record {
      negative = s.negative;
      digits = s.digits;
      is = inr (record { mark = b; sign = s.sign; is_mark = ⊎_elim (λ k. inl (eqb-true b 101 k)) (λ k. inr (eqb-true b 69 k)) (or_cases (eqb b 101) (eqb b 69) e); is_sign = s.is_sign; digits = s.are_digits; text = ap (λ (x : List ℕ). b ∷ x) s.text });
    })
    (λ e. absurd (nothing_ends bs (taken_else (eqb b 101 || eqb b 69) (Some Mark) None bs e h)))
    (cases_Bool (eqb b 101 || eqb b 69))

-- digits, and then what may follow a fraction
record Digits (bs : List ℕ) : Type 0 where
  digits : List ℕ
  rest : List ℕ
  all : AllDigits 10 digits
  exponent : ExponentPart rest
  text : bs ≡ digits ++ rest

one_digit_more : (b : ℕ) (bs : List ℕ) → digit_value b < 10 → Digits bs → Digits (b ∷ bs)
one_digit_more b bs d r = record { digits = b ∷ r.digits; rest = r.rest; all = (d, r.all); exponent = r.exponent; text = ap (λ (x : List ℕ). b ∷ x) r.text }

fraction_digits : (bs : List ℕ) → EndsAfter (Some Fraction) bs → Digits bs
fraction_digits [] h = record { digits = []; rest = []; all = tt; exponent = no_exponent; text = refl }
fraction_digits (b ∷ bs) h =
    by_digit b (Some Fraction) (exponent_mark b) bs h (λ d k. one_digit_more b bs d (fraction_digits bs k))
    (λ k. record { digits = []; rest = b ∷ bs; all = tt; exponent = mark_exponent b bs k; text = refl })

-- what may follow whole digits
record Behind (bs : List ℕ) : Type 0 where
  fraction : List ℕ
  fraction_text : List ℕ
  rest : List ℕ
  is_fraction : IsFraction fraction fraction_text
  exponent : ExponentPart rest
  text : bs ≡ fraction_text ++ rest

point_digits : (bs : List ℕ) → EndsAfter (Some Point) bs → Behind (46 ∷ bs)
point_digits [] h = cc
point_digits (b ∷ bs) h =
    by_digit b (Some Fraction) None bs h
    (λ d k. let r : Digits bs = fraction_digits bs k in
    record { fraction = b ∷ r.digits; fraction_text = 46 ∷ b ∷ r.digits; rest = r.rest; is_fraction = inr ((omega arith, (d, r.all)), refl); exponent = r.exponent; text = ap (λ (x : List ℕ). 46 ∷ b ∷ x) r.text })
    (λ k. absurd (nothing_ends bs k))

nothing_behind : Behind []
nothing_behind = record { fraction = []; fraction_text = []; rest = []; is_fraction = inl (refl, refl); exponent = no_exponent; text = refl }

behind_digits : (b : ℕ) (bs : List ℕ) → EndsAfter (behind_whole b) bs → Behind (b ∷ bs)
behind_digits b bs h =
    ⊎_elim
    (λ e. subst (λ (c : ℕ). Behind (c ∷ bs)) (sym (eqb-true b 46 e)) (point_digits bs (taken_if (eqb b 46) (Some Point) (exponent_mark b) bs e h)))
    (λ e. record { fraction = []; fraction_text = []; rest = b ∷ bs; is_fraction = inl (refl, refl); exponent = mark_exponent b bs (taken_else (eqb b 46) (Some Point) (exponent_mark b) bs e h); text = refl })
    (cases_Bool (eqb b 46))

zero_behind : (bs : List ℕ) → EndsAfter (Some Zero) bs → Behind bs
zero_behind [] h = nothing_behind
zero_behind (b ∷ bs) h = behind_digits b bs h

-- more whole digits, and what follows them
record WholeRest (bs : List ℕ) : Type 0 where
  digits : List ℕ
  rest : List ℕ
  all : AllDigits 10 digits
  behind : Behind rest
  text : bs ≡ digits ++ rest

whole_rest : (bs : List ℕ) → EndsAfter (Some Whole) bs → WholeRest bs
whole_rest [] h = record { digits = []; rest = []; all = tt; behind = nothing_behind; text = refl }
whole_rest (b ∷ bs) h =
    by_digit b (Some Whole) (behind_whole b) bs h
    (λ d k. let r : WholeRest bs = whole_rest bs k in record { digits = b ∷ r.digits; rest = r.rest; all = (d, r.all); behind = r.behind; text = ap (λ (x : List ℕ). b ∷ x) r.text })
    (λ k. record { digits = []; rest = b ∷ bs; all = tt; behind = behind_digits b bs k; text = refl })

-- whole digits, and what follows them
record Unsigned (bs : List ℕ) : Type 0 where
  whole : List ℕ
  rest : List ℕ
  is_whole : IsWhole whole
  behind : Behind rest
  text : bs ≡ whole ++ rest

one_zero : (b : ℕ) → b ≡ 48 → IsWhole (b ∷ [])
one_zero b e = ((omega arith, (subst (λ (c : ℕ). digit_value c < 10) (sym e) (omega arith), tt)), λ more. absurd (omega (arith, more)))

unsigned : (b : ℕ) (bs : List ℕ) → EndsAfter (first_digit b) bs → Unsigned (b ∷ bs)
unsigned b bs h =
    ⊎_elim
    (λ e. record { whole = b ∷ []; rest = bs; is_whole = one_zero b (eqb-true b 48 e); behind = zero_behind bs (taken_if (eqb b 48) (Some Zero) (cond (is_ascii_digit b) (Some Whole) None) bs e h); text = refl })
    (λ e. by_digit b (Some Whole) None bs (taken_else (eqb b 48) (Some Zero) (cond (is_ascii_digit b) (Some Whole) None) bs e h)
    (λ d k. let r : WholeRest bs = whole_rest bs k in
    record { whole = b ∷ r.digits; rest = r.rest; is_whole = ((omega arith, (d, r.all)), λ _ z. let t : true ≡ false = sym (eq-eqb b 48 z) ∙ e in cc); behind = r.behind; text = ap (λ (x : List ℕ). b ∷ x) r.text })
    (λ k. absurd (nothing_ends bs k)))
    (cases_Bool (eqb b 48))

number_parts : (n : Bool) (bs : List ℕ) (u : Unsigned bs) → IsNumber (sign_text n ++ bs)
number_parts n bs u =
    let p : NumberParts = record { negative = n; whole = u.whole; fraction = u.behind.fraction; exponent_negative = u.behind.exponent.negative; exponent = u.behind.exponent.digits } in (
      value_of p,
      record {
        parts = p;
        number = record {
          fraction_text = u.behind.fraction_text;
          exponent_text = u.behind.rest;
          whole = u.is_whole;
          fraction = u.behind.is_fraction;
          exponent = u.behind.exponent.is;
          text = ap (λ (x : List ℕ). sign_text n ++ x) (u.text ∙ ap (λ (x : List ℕ). u.whole ++ x) u.behind.text);
        };
        value = refl;
      },
    )

minus_number : (bs : List ℕ) → EndsAfter (Some Minus) bs → IsNumber (45 ∷ bs)
minus_number [] h = cc
minus_number (b ∷ bs) h = number_parts true (b ∷ bs) (unsigned b bs h)

taken_number : (bs : List ℕ) → EndsAfter (Some Nothing) bs → IsNumber bs
taken_number [] h = cc
taken_number (b ∷ bs) h =
    ⊎_elim
    (λ e. subst (λ (c : ℕ). IsNumber (c ∷ bs)) (sym (eqb-true b 45 e)) (minus_number bs (taken_if (eqb b 45) (Some Minus) (first_digit b) bs e h)))
    (λ e. number_parts false (b ∷ bs) (unsigned b bs (taken_else (eqb b 45) (Some Minus) (first_digit b) bs e h)))
    (cases_Bool (eqb b 45))

-- ---- whether bytes are a number

pub number_if : (a : List ℕ) → EndsAfter (Some Nothing) a → (v : Number) × (number_of a ≡ Some v)
number_if a h = number_some a (taken_number a h)

pub no_number_else : (a : List ℕ) → ends (numeral_after (Some Nothing) a) ≡ false → number_of a ≡ None
no_number_else a h = number_none a (λ n. let e : true ≡ false = sym (number_taken a n) ∙ h in cc)
