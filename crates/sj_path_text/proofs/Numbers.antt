-- The text of a number without a sign is one token.
use Rattle.std.proofs.Common.{◌≡◌, ℕ, zero, suc, ◌+◌, ◌/◌, ◌%◌, ◌^◌, ◌<◌, ◌≤◌, Bool, true, false, ◌&&◌, ◌||◌, ◌==◌, List, [], ◌∷◌, ◌++◌, length, drop, decimal, unsigned_abs, Option, Some, ℤ, refl, sym, ap, subst, ◌∙◌, arith, lit<, append_assoc, length-append, take_at, drop_at, eqb-true, div-le_self}
use Rattle.std.specs.List.{prefix_len}
use Rattle.std.specs.Char.{is_ascii_digit}
use Rattle.std.specs.Fmt.{sign_text}
use Rattle.std.specs.Str.Parse.{AllDigits}
use Rattle.std.proofs.lemmas.Bool.Decides.{nat_tests}
use Rattle.std.proofs.lemmas.Fmt.{decimal_digit, decimal_by_steps_wide, decimal_is_IsNumeral_wide}
use Rattle.sj_base.specs.ByteClasses.{is_letter, is_word_byte, next_is, next_is_digit}
use Rattle.sj_decimal.specs.Signed.{is_negative}
use Rattle.sj_decimal.specs.Normal.{IsDecimal}
use Rattle.sj_decimal.specs.Number.{SpellsExact}
use Rattle.sj_decimal.specs.Text.{last_digits, decimals_text, decimal_text}
use Rattle.sj_decimal.proofs.Digits.{digit_passes}
use Rattle.sj_decimal.proofs.Laws.{decimal_text_spells}
use Rattle.sj_decimal.proofs.Texts.{last_digits_none, last_digits_more, length-last_digits}
use Rattle.sj_path_token.specs.declared.token.Token.{Token}
use Rattle.sj_path_token.specs.declared.token.Token.TheVariants as k
use Rattle.sj_path_token.specs.Words as w
use Rattle.sj_path_token.specs.Words.{AllPass}
use Rattle.sj_path_token.specs.Numbers as n
use Rattle.sj_path_token.specs.Numbers.{NoMinus, IsNumeral}
use Rattle.sj_path_token.specs.Reading.{whole_len, fraction_len, exponent_len, rest_len, number_len, number_token, number_at, form_from, form_at}
use Rattle.sj_path_token.proofs.Runs.{run_ends, run_longer}
use Rattle.sj_path_token.proofs.Cuts.{cond_on, cond_off}
use Rattle.sj_path_token.proofs.Numerals.{token_exact, numeral_digit}
use Rattle.sj_path_text.proofs.Lexing.{stops, no_word, no_decimals, Lexes, token_lexes}

apart : true ≡ false → ⊥
apart q = cc

-- ---- runs of digits

digits_pass : (ds : List ℕ) → AllDigits 10 ds → AllPass is_ascii_digit ds
digits_pass [] h = w.none
digits_pass (c ∷ cs) h = w.more (digit_passes c h.0) (digits_pass cs h.1)

one_more : {ds : List ℕ} (c : ℕ) → AllPass is_ascii_digit ds → is_ascii_digit c ≡ true → AllPass is_ascii_digit (ds ++ c ∷ [])
one_more c w.none h = w.more h w.none
one_more c (w.more g p) h = w.more g (one_more c p h)

glyph_passes : (r : ℕ) → r < 10 → is_ascii_digit (48 + r) ≡ true
glyph_passes r h = grind (arith, nat_tests)

pub last_digits_pass : (s m : ℕ) → AllPass is_ascii_digit (last_digits s m)
last_digits_pass zero m = subst (AllPass is_ascii_digit) (sym (last_digits_none m)) w.none
last_digits_pass (suc s) m = subst (AllPass is_ascii_digit) (sym (last_digits_more s m)) (one_more (48 + m % 10) (last_digits_pass s (m / 10)) (glyph_passes (m % 10) (omega arith)))

no_run : (rest : List ℕ) → next_is_digit rest ≡ false → prefix_len is_ascii_digit rest ≡ 0
no_run [] h = refl
no_run (b ∷ bs) h = run_ends is_ascii_digit b bs h

run_is : {ds : List ℕ} → AllPass is_ascii_digit ds → (rest : List ℕ) → next_is_digit rest ≡ false → prefix_len is_ascii_digit (ds ++ rest) ≡ length ds
run_is {ds} p rest h = let e = run_longer p rest in let f = no_run rest h in omega (arith, e, f)

or_false : (a b : Bool) → a || b ≡ false → b ≡ false
or_false true b h = cc
or_false false b h = h

no_digit : (rest : List ℕ) → stops rest ≡ true → next_is_digit rest ≡ false
no_digit [] s = refl
no_digit (b ∷ bs) s = or_false (is_letter b) (is_ascii_digit b) (no_word b bs s)

-- ---- the whole part

-- no zero stands first, but of 0
abbrev FirstOf : ℕ → List ℕ → Type 0
FirstOf m ds = (0 < length ds) × (0 < m → next_is 48 ds ≡ false)

one_first : (m : ℕ) → m < 10 → FirstOf m ((48 + m) ∷ [])
one_first m small = (omega arith, λ some. grind (arith, nat_tests))

first_more : (m : ℕ) (ds : List ℕ) → 10 ≤ m → FirstOf (m / 10) ds → FirstOf m (ds ++ ((48 + m % 10) ∷ []))
first_more m [] big h = absurd (omega (arith, h.0))
first_more m (c ∷ cs) big h = (omega arith, λ some. h.1 (omega (arith, big)))

first_is : (m : ℕ) → m < 10 ^ 64 → FirstOf m (decimal m)
first_is = decimal_by_steps_wide FirstOf one_first first_more

still_first : (b : ℕ) (ds rest : List ℕ) → 0 < length ds → next_is b (ds ++ rest) ≡ next_is b ds
still_first b [] rest h = absurd (omega arith)
still_first b (c ∷ cs) rest h = refl

whole_is : (m : ℕ) → m < 10 ^ 64 → (rest : List ℕ) → next_is_digit rest ≡ false → whole_len (decimal m ++ rest) ≡ length (decimal m)
whole_is zero small rest ends = subst (λ (ds : List ℕ). whole_len (ds ++ rest) ≡ length ds) (sym (decimal_digit 0 (lit< tt))) refl
whole_is (suc m) small rest ends =
    let f = first_is (suc m) small in
    cond_off (next_is 48 (decimal (suc m) ++ rest)) _ _ (still_first 48 (decimal (suc m)) rest f.0 ∙ f.1 (omega arith))
    (run_is (digits_pass (decimal (suc m)) (decimal_is_IsNumeral_wide (suc m) small).0.1) rest ends)

-- ---- what stands behind it

next_passes : {ds : List ℕ} → AllPass is_ascii_digit ds → 0 < length ds → (rest : List ℕ) → next_is_digit (ds ++ rest) ≡ true
next_passes w.none some rest = absurd (omega arith)
next_passes (w.more h p) some rest = h

fraction_is : (s m : ℕ) (rest : List ℕ) → stops rest ≡ true → fraction_len (decimals_text s m ++ rest) ≡ length (decimals_text s m)
fraction_is zero m [] stop = refl
fraction_is zero m (b ∷ bs) stop = cond_off (b == 46 && next_is_digit bs) _ _ (no_decimals b bs stop) refl
fraction_is (suc s) m rest stop =
    let some : 0 < length (last_digits (suc s) m) = omega (arith, length-last_digits (suc s) m) in
    cond_on (next_is_digit (last_digits (suc s) m ++ rest)) _ _ (next_passes (last_digits_pass (suc s) m) some rest)
    (let e = run_is (last_digits_pass (suc s) m) rest (no_digit rest stop) in omega (arith, e))

no_mark : (b : ℕ) → is_word_byte b ≡ false → (b == 101 || b == 69) ≡ false
no_mark b h = go (b == 101) (b == 69) refl refl
  where
    no : (c : ℕ) → (b == c) ≡ true → is_word_byte c ≡ true → ⊥
    no c e is = absurd (apart (sym is ∙ ap is_word_byte (sym (eqb-true b c e)) ∙ h))

    go : (x y : Bool) → (b == 101) ≡ x → (b == 69) ≡ y → (b == 101 || b == 69) ≡ false
    go true y e f = absurd (no 101 e refl)
    go false true e f = absurd (no 69 f refl)
    go false false e f = ap (λ (z : Bool). z || (b == 69)) e ∙ f

exponent_is : (rest : List ℕ) → stops rest ≡ true → exponent_len rest ≡ 0
exponent_is [] s = refl
exponent_is (b ∷ bs) s = cond_off (b == 101 || b == 69) _ _ (no_mark b (no_word b bs s)) refl

no_digit_behind : (s m : ℕ) (rest : List ℕ) → stops rest ≡ true → next_is_digit (decimals_text s m ++ rest) ≡ false
no_digit_behind zero m rest stop = no_digit rest stop
no_digit_behind (suc s) m rest stop = refl

behind_is : (s m : ℕ) (rest : List ℕ) → stops rest ≡ true → rest_len (decimals_text s m ++ rest) ≡ length (decimals_text s m)
behind_is s m rest stop =
    let f = fraction_is s m rest stop in
    let after : drop (fraction_len (decimals_text s m ++ rest)) (decimals_text s m ++ rest) ≡ rest = drop_at (decimals_text s m) rest (fraction_len (decimals_text s m ++ rest)) (sym f) in
    omega (arith, f, ap exponent_len after, exponent_is rest stop)

-- ---- the number

number_ends : (whole s m : ℕ) (rest : List ℕ) → whole < 10 ^ 64 → stops rest ≡ true → number_len (decimal whole ++ (decimals_text s m ++ rest)) ≡ length (decimal whole) + length (decimals_text s m)
unfolding number_len
number_ends whole s m rest small stop =
    let behind : List ℕ = decimals_text s m ++ rest in
    let n = whole_is whole small behind (no_digit_behind s m rest stop) in
    let after : drop (whole_len (decimal whole ++ behind)) (decimal whole ++ behind) ≡ behind = drop_at (decimal whole) behind (whole_len (decimal whole ++ behind)) (sym n) in
    omega (arith, n, ap rest_len after, behind_is s m rest stop)

same_number : {a b : Option Token} {m n : ℕ} → a ≡ b → m ≡ n → ◌≡◌ {A = Option (Option Token × ℕ)} (Some (a, m)) (Some (b, n))
same_number p q = cc

number_read : (digits rest : List ℕ) (d : ℤ × ℕ) → SpellsExact digits d → number_len (digits ++ rest) ≡ length digits → number_at (digits ++ rest) ≡ Some (Some (k.Number d), length digits)
unfolding number_at
number_read digits rest d s n = same_number (ap number_token (take_at digits rest (number_len (digits ++ rest)) (sym n)) ∙ token_exact digits d s) n

number_form : (digits rest : List ℕ) (d : ℤ × ℕ) → NoMinus digits → SpellsExact digits d → form_at (digits ++ rest) ≡ number_at (digits ++ rest)
unfolding form_from
number_form digits rest d m s = go digits (numeral_digit (n.exact m s))
  where
    go : (ds : List ℕ) → (b : ℕ) × (bs : List ℕ) × (ds ≡ b ∷ bs) × (is_letter b ≡ false) × (is_ascii_digit b ≡ true) → form_at (ds ++ rest) ≡ number_at (ds ++ rest)
    go ds q = subst (λ (l : List ℕ). form_at (l ++ rest) ≡ number_at (l ++ rest)) (sym q.2) (cond_off (is_letter q.0) _ _ q.3 (cond_on (is_ascii_digit q.0) _ _ q.4 refl))

pub unsigned : (d : ℤ × ℕ) → is_negative d.0 ≡ false → decimal_text d ≡ decimal (unsigned_abs d.0 / 10 ^ d.1) ++ decimals_text d.1 (unsigned_abs d.0)
unsigned d h = ap (λ (b : Bool). sign_text b ++ (decimal (unsigned_abs d.0 / 10 ^ d.1) ++ decimals_text d.1 (unsigned_abs d.0))) h

no_minus : (m : ℕ) → m < 10 ^ 64 → (rest : List ℕ) → NoMinus (decimal m ++ rest)
no_minus m small rest = go (decimal m) (decimal_is_IsNumeral_wide m small).0.0 (digits_pass (decimal m) (decimal_is_IsNumeral_wide m small).0.1)
  where
    go : (ds : List ℕ) → 0 < length ds → AllPass is_ascii_digit ds → NoMinus (ds ++ rest)
    go [] some p = absurd (omega arith)
    go (c ∷ cs) some (w.more h p) = λ e. apart (sym h ∙ ap is_ascii_digit e)

pub number_lexes : (d : ℤ × ℕ) → IsDecimal d → is_negative d.0 ≡ false → Lexes (decimal_text d) (λ ts. k.Number d ∷ ts)
number_lexes d is plus = token_lexes (decimal_text d) (k.Number d) read
  where
    whole : ℕ
    whole = unsigned_abs d.0 / 10 ^ d.1

    small : unsigned_abs d.0 / 10 ^ d.1 < 10 ^ 64
    small = omega (arith, div-le_self (unsigned_abs d.0) (10 ^ d.1), is.limits.coefficient)

    len : (rest : List ℕ) → stops rest ≡ true → number_len (decimal_text d ++ rest) ≡ length (decimal_text d)
    len rest stop = subst (λ (l : List ℕ). number_len (l ++ rest) ≡ length l) (sym (unsigned d plus))
        (ap number_len (append_assoc (decimal (unsigned_abs d.0 / 10 ^ d.1)) (decimals_text d.1 (unsigned_abs d.0)) rest)
        ∙ number_ends (unsigned_abs d.0 / 10 ^ d.1) d.1 (unsigned_abs d.0) rest small stop
        ∙ sym (length-append (decimal (unsigned_abs d.0 / 10 ^ d.1)) (decimals_text d.1 (unsigned_abs d.0))))

    minus : NoMinus (decimal_text d)
    minus = subst NoMinus (sym (unsigned d plus)) (no_minus (unsigned_abs d.0 / 10 ^ d.1) small (decimals_text d.1 (unsigned_abs d.0)))

    read : (rest : List ℕ) → stops rest ≡ true → form_at (decimal_text d ++ rest) ≡ Some (Some (k.Number d), length (decimal_text d))
    read rest stop = number_form (decimal_text d) rest d minus (decimal_text_spells d is) ∙ number_read (decimal_text d) rest d (decimal_text_spells d is) (len rest stop)
