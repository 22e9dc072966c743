-- Which bytes a number has, and how it begins.
use Rattle.std.proofs.Common.{◌≡◌, ℕ, ◌<◌, ◌⊎◌, Bool, true, false, eqb, List, [], ◌∷◌, ◌++◌, length, get_or, ℤ, refl, sym, ap, ◌∙◌, subst, inl, inr, arith}
use Rattle.std.specs.List.{list_all}
use Rattle.std.specs.Char.{is_ascii_digit}
use Rattle.std.specs.Fmt.{sign_text}
use Rattle.std.specs.Str.Parse.{AllDigits}
use Rattle.std.proofs.lemmas.Bool.{and_from, or_left}
use Rattle.std.proofs.lemmas.List.Folds.{list_all-append}
use Rattle.sj_decimal.specs.Number.{IsWhole, IsFraction, IsExponent, IsExponentSign, SpellsNumber, is_number_byte, begins_number}
use Rattle.sj_decimal.proofs.Digits.{digit_passes}

joined : (xs ys : List ℕ) → list_all is_number_byte xs ≡ true → list_all is_number_byte ys ≡ true → list_all is_number_byte (xs ++ ys) ≡ true
joined xs ys h k = list_all-append is_number_byte xs ys ∙ and_from (list_all is_number_byte xs) (list_all is_number_byte ys) h k

digits_pass : (ds : List ℕ) → AllDigits 10 ds → list_all is_number_byte ds ≡ true
digits_pass [] all = refl
digits_pass (c ∷ cs) all =
    and_from (is_number_byte c) (list_all is_number_byte cs) (or_left (is_ascii_digit c) _ (digit_passes c all.0)) (digits_pass cs all.1)

sign_passes : (b : Bool) → list_all is_number_byte (sign_text b) ≡ true
sign_passes true = refl
sign_passes false = refl

fraction_passes : (ds t : List ℕ) → IsFraction ds t → list_all is_number_byte t ≡ true
fraction_passes ds t (inl h) = ap (list_all is_number_byte) h.1
fraction_passes ds t (inr h) = ap (list_all is_number_byte) h.1 ∙ digits_pass ds h.0.1

exponent_sign_passes : (n : Bool) (t : List ℕ) → IsExponentSign n t → list_all is_number_byte t ≡ true
exponent_sign_passes true t h = ap (list_all is_number_byte) h
exponent_sign_passes false t (inl h) = ap (list_all is_number_byte) h
exponent_sign_passes false t (inr h) = ap (list_all is_number_byte) h

mark_passes : (c : ℕ) → (c ≡ 101) ⊎ (c ≡ 69) → is_number_byte c ≡ true
mark_passes c (inl h) = ap is_number_byte h
mark_passes c (inr h) = ap is_number_byte h

exponent_passes : (n : Bool) (ds t : List ℕ) → IsExponent n ds t → list_all is_number_byte t ≡ true
exponent_passes n ds t (inl h) = ap (list_all is_number_byte) h.2
exponent_passes n ds t (inr h) =
    ap (list_all is_number_byte) h.text
    ∙ and_from (is_number_byte h.mark) (list_all is_number_byte (h.sign ++ ds)) (mark_passes h.mark h.is_mark)
    (joined h.sign ds (exponent_sign_passes n h.sign h.is_sign) (digits_pass ds h.digits.1))

-- each byte of a number is one of those that a number may have
pub number_bytes : (b : List ℕ) (v : ℤ × ℕ) → SpellsNumber b v → list_all is_number_byte b ≡ true
number_bytes b v h =
    let n = h.number in
    ap (list_all is_number_byte) n.text
    ∙ joined (sign_text h.parts.negative) (h.parts.whole ++ (n.fraction_text ++ n.exponent_text)) (sign_passes h.parts.negative)
    (joined h.parts.whole (n.fraction_text ++ n.exponent_text) (digits_pass h.parts.whole n.whole.0.1)
    (joined n.fraction_text n.exponent_text (fraction_passes h.parts.fraction n.fraction_text n.fraction)
    (exponent_passes h.parts.exponent_negative h.parts.exponent n.exponent_text n.exponent)))

-- a number is not empty, and begins with a digit or a minus
pub record BeginsAsNumber (b : List ℕ) : Type 0 where
  pub nonempty : 0 < length b
  pub first : begins_number (get_or b 0 0) ≡ true

whole_begins : (w t : List ℕ) → IsWhole w → BeginsAsNumber (w ++ t)
whole_begins [] t h = absurd (omega (arith, h.0.0))
whole_begins (c ∷ cs) t h = record { nonempty = omega arith; first = or_left (is_ascii_digit c) (eqb c 45) (digit_passes c h.0.1.0) }

signed_begins : (n : Bool) (w t : List ℕ) → IsWhole w → BeginsAsNumber (sign_text n ++ (w ++ t))
signed_begins true w t h = record { nonempty = omega arith; first = refl }
signed_begins false w t h = whole_begins w t h

pub number_begins : (b : List ℕ) (v : ℤ × ℕ) → SpellsNumber b v → BeginsAsNumber b
number_begins b v h =
    subst BeginsAsNumber (sym h.number.text) (signed_begins h.parts.negative h.parts.whole (h.number.fraction_text ++ h.number.exponent_text) h.number.whole)
