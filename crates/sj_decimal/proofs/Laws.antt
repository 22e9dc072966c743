-- The laws of the texts of numbers: a text spells at most one number, and the text of a decimal spells that decimal.
use Rattle.std.proofs.Common.{◌≡◌, ◌≢◌, ℕ, zero, suc, ◌+◌, ◌*◌, ◌/◌, ◌%◌, ◌^◌, ◌<◌, ◌≤◌, Bool, false, List, [], ◌∷◌, ◌++◌, length, get_or, ℤ, pos, negsuc, ◌-ℤ◌, unsigned_abs, decimal, refl, sym, ap, ap₂, ◌∙◌, subst, inl, inr, ⊎_elim, arith, lit<, append-nil, pow-suc, mul_assoc, mul-one, div-add-mod', div-le_self, pos_of_ne-zero}
use Rattle.std.specs.Char.{digit_value}
use Rattle.std.specs.Fmt.{sign_text}
use Rattle.std.specs.Str.Parse.{AllDigits, digits_value, digits_value_after}
use Rattle.std.specs.Int.{IsInRange}
use Rattle.std.proofs.lemmas.Int.{ints}
use Rattle.std.proofs.lemmas.Bool.{cases_eq}
use Rattle.std.proofs.lemmas.Str.{digit_value_digit}
use Rattle.std.proofs.lemmas.Fmt.{decimal_digit, decimal_by_steps_wide, decimal_is_IsNumeral_wide}
use Rattle.std.proofs.lemmas.Int.Digits.{digits_push}
use Rattle.std.proofs.Math.Arith.{mod-mul}
use Rattle.sj_decimal.specs.Signed.{signed, is_negative, signed_parts, IsSignOf, is_negative-signed, unsigned_abs-signed}
use Rattle.sj_decimal.specs.Normal.{normal, IsExact, IsDecimal}
use Rattle.sj_decimal.specs.Number.{NumberParts, IsWhole, IsFraction, shifted, value_of, SpellsNumber, SpellsExact, SpellsWide}
use Rattle.sj_decimal.specs.Text.{last_digits, decimals_text, decimal_text}
use Rattle.sj_decimal.proofs.Powers.{power_pos}
use Rattle.sj_decimal.proofs.NormalForm.{normal_decimal, IsExact-decimal, IsDecimal-normal}
use Rattle.sj_decimal.proofs.Readings.{one_cut}
use Rattle.sj_decimal.proofs.Significands.{digits_value_after-append}
use Rattle.sj_decimal.proofs.Texts.{last_digits_none, last_digits_more, length-last_digits}

-- ---- at most one number

pub one_number : (b : List ℕ) (v w : ℤ × ℕ) → SpellsNumber b v → SpellsNumber b w → v ≡ w
one_number b v w h k = h.value ∙ ap value_of (one_cut h.parts k.parts b h.number k.number) ∙ sym k.value

pub one_exact : (b : List ℕ) (d e : ℤ × ℕ) → SpellsExact b d → SpellsExact b e → d ≡ e
one_exact b d e h k = h.normal_form ∙ ap normal (one_number b h.value k.value h.spells k.spells) ∙ sym k.normal_form

-- a number is not both exact and wide
pub exact_or_wide : (b : List ℕ) (d : ℤ × ℕ) → SpellsExact b d → SpellsWide b → ⊥
exact_or_wide b d h k = k.wide (subst IsExact (one_number b h.value k.value h.spells k.spells) h.exact)

pub IsDecimal-spelled : (b : List ℕ) (d : ℤ × ℕ) → SpellsExact b d → IsDecimal d
IsDecimal-spelled b d h = subst IsDecimal (sym h.normal_form) (IsDecimal-normal h.value h.exact)

-- ---- the text of a decimal

glyph_value : (r : ℕ) → r < 10 → digit_value (48 + r) ≡ r
glyph_value r small =
    let range : IsInRange 48 57 (48 + r) = (omega arith, omega (arith, small)) in
    let value : digit_value (48 + r) + 48 ≡ 48 + r = digit_value_digit (48 + r) range in
    omega (arith, value)

glyph_is_digit : (r : ℕ) → r < 10 → digit_value (48 + r) < 10
glyph_is_digit r small = rw (glyph_value r small) small

AllDigits-last_digits : (k n : ℕ) → AllDigits 10 (last_digits k n)
AllDigits-last_digits zero n = rw last_digits_none tt
AllDigits-last_digits (suc k) n =
    rw last_digits_more (digits_push 10 (last_digits k (n / 10)) (48 + n % 10) (AllDigits-last_digits k (n / 10)) (glyph_is_digit (n % 10) (omega arith)))

-- digits after those of w
value_last_digits : (k w n : ℕ) → digits_value_after 10 w (last_digits k n) ≡ w * 10 ^ k + n % 10 ^ k
value_last_digits zero w n =
    let none : n % 10 ^ 0 ≡ 0 = omega arith in
    rw (last_digits_none, none, mul-one) (omega arith)
value_last_digits (suc k) w n =
    let power : 10 ^ suc k ≡ 10 ^ k * 10 = pow-suc 10 k in
    let parts : n % 10 ^ suc k ≡ n / 10 % 10 ^ k * 10 + n % 10 = rw power (mod-mul n {m = 10 ^ k} {c = 10} (power_pos k) (lit< tt)) in
    let front : digits_value_after 10 w (last_digits k (n / 10)) ≡ w * 10 ^ k + n / 10 % 10 ^ k = value_last_digits k w (n / 10) in
    let last : digit_value (48 + n % 10) ≡ n % 10 = glyph_value (n % 10) (omega arith) in
    let grown : w * 10 ^ suc k ≡ w * 10 ^ k * 10 = ap (λ e. w * e) power ∙ sym (mul_assoc w (10 ^ k) 10) in
    ap (digits_value_after 10 w) (last_digits_more k n)
    ∙ digits_value_after-append w (last_digits k (n / 10)) ((48 + n % 10) ∷ [])
    ∙ ap₂ (λ (x y : ℕ). x * 10 + y) front last
    ∙ omega (arith, parts, grown)

-- no zero stands first
first_of : ℕ → List ℕ → Type 0
first_of n ds = (0 < length ds) × (0 < n → get_or ds 0 0 ≢ 48)

first_more : (n : ℕ) (ds : List ℕ) → 10 ≤ n → first_of (n / 10) ds → first_of n (ds ++ ((48 + n % 10) ∷ []))
unfolding first_of
first_more n [] big h = absurd (omega (arith, h.0))
first_more n (c ∷ cs) big h = (omega arith, λ some. h.1 (omega (arith, big)))

first_decimal : (n : ℕ) → n < 10 ^ 64 → first_of n (decimal n)
unfolding first_of
first_decimal = decimal_by_steps_wide first_of (λ n small. (omega arith, λ some zero_first. absurd (omega (arith, some, zero_first)))) first_more

IsWhole-decimal : (n : ℕ) → n < 10 ^ 64 → IsWhole (decimal n)
unfolding first_of
IsWhole-decimal n small = (
  (decimal_is_IsNumeral_wide n small).0,
  λ more. ⊎_elim
      (λ none. absurd (omega (arith, more, ap (λ k. length (decimal k)) none ∙ ap length (decimal_digit 0 (lit< tt)))))
      (λ some. (first_decimal n small).1 (pos_of_ne-zero some))
      (cases_eq n 0),
)

IsFraction-decimals : (s m : ℕ) → IsFraction (last_digits s m) (decimals_text s m)
IsFraction-decimals zero m = inl (last_digits_none m, refl)
IsFraction-decimals (suc s) m = inr ((omega (arith, length-last_digits (suc s) m), AllDigits-last_digits (suc s) m), refl)

abbrev text_parts : ℤ × ℕ → NumberParts
text_parts d = record {
  negative = is_negative d.0;
  whole = decimal (unsigned_abs d.0 / 10 ^ d.1);
  fraction = last_digits d.1 (unsigned_abs d.0);
  exponent_negative = false;
  exponent = [];
}

digits_of_text : (m s : ℕ) → m < 10 ^ 64 → digits_value 10 (decimal (m / 10 ^ s) ++ last_digits s m) ≡ m
digits_of_text m s small =
    let least : m / 10 ^ s ≤ m = div-le_self m (10 ^ s) in
    let whole : digits_value 10 (decimal (m / 10 ^ s)) ≡ m / 10 ^ s = (decimal_is_IsNumeral_wide (m / 10 ^ s) (omega (arith, least, small))).1 in
    digits_value_after-append 0 (decimal (m / 10 ^ s)) (last_digits s m)
    ∙ ap (λ k. digits_value_after 10 k (last_digits s m)) whole
    ∙ value_last_digits s (m / 10 ^ s) m
    ∙ div-add-mod' m (10 ^ s)

shifted_decimals : (b : Bool) (m s : ℕ) (e : ℤ) → e ≡ pos 0 -ℤ pos s → shifted b m e ≡ (signed b m, s)
shifted_decimals b m zero (pos n) is =
    let none : n ≡ 0 = omega (arith, ints, is) in
    rw (none, mul-one) refl
shifted_decimals b m zero (negsuc n) is = absurd (omega (arith, ints, is))
shifted_decimals b m (suc s) (pos n) is = absurd (omega (arith, ints, is))
shifted_decimals b m (suc s) (negsuc n) is =
    let same : n ≡ s = omega (arith, ints, is) in
    ap (λ k. (signed b m, suc k)) same

value_of_text : (d : ℤ × ℕ) → unsigned_abs d.0 < 10 ^ 64 → d ≡ value_of (text_parts d)
value_of_text d small =
    let m : ℕ = unsigned_abs d.0 in
    ap (λ c. (c, d.1)) (sym (signed_parts d.0))
    ∙ sym (shifted_decimals (is_negative d.0) m d.1 (pos 0 -ℤ pos (length (last_digits d.1 m))) (ap (λ k. pos 0 -ℤ pos k) (length-last_digits d.1 m)))
    ∙ ap (λ n. shifted (is_negative d.0) n (pos 0 -ℤ pos (length (last_digits d.1 m)))) (sym (digits_of_text m d.1 small))

-- the text of a pair spells the number that the pair stands for
pub text_spells : (d : ℤ × ℕ) → unsigned_abs d.0 < 10 ^ 64 → SpellsNumber (decimal_text d) d
text_spells d small =
    let m : ℕ = unsigned_abs d.0 in
    let least : m / 10 ^ d.1 ≤ m = div-le_self m (10 ^ d.1) in
    record {
      parts = text_parts d;
      number = record {
        fraction_text = decimals_text d.1 m;
        exponent_text = [];
        whole = IsWhole-decimal (m / 10 ^ d.1) (omega (arith, least, small));
        fraction = IsFraction-decimals d.1 m;
        exponent = inl (refl, refl, refl);
        text = ap (λ (t : List ℕ). sign_text (is_negative d.0) ++ (decimal (m / 10 ^ d.1) ++ t)) (sym (append-nil (decimals_text d.1 m)));
      };
      value = value_of_text d small;
    }

-- the text of a decimal spells the decimal
pub decimal_text_spells : (d : ℤ × ℕ) → IsDecimal d → SpellsExact (decimal_text d) d
decimal_text_spells d h =
    record {
      value = d;
      spells = text_spells d (omega (arith, h.limits.coefficient));
      exact = IsExact-decimal d h;
      normal_form = sym (normal_decimal d h);
    }

-- the text by sign and magnitude
pub decimal_text-signed : (b : Bool) (m s : ℕ) → IsSignOf b m → decimal_text (signed b m, s) ≡ sign_text b ++ (decimal (m / 10 ^ s) ++ decimals_text s m)
decimal_text-signed b m s h =
    ap₂ (λ (d : Bool) (n : ℕ). sign_text d ++ (decimal (n / 10 ^ s) ++ decimals_text s n)) (is_negative-signed b m h) (unsigned_abs-signed b m)
