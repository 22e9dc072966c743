-- The text of a number is one token, behind a minus sign where the number is negative.
use Rattle.std.proofs.Common.{◌≡◌, ℕ, zero, suc, ◌+◌, ◌*◌, ◌/◌, ◌%◌, ◌^◌, ◌<◌, Bool, true, false, cond, ◌&&◌, ◌==◌, List, [], ◌∷◌, ◌++◌, length, take, drop, decimal, ℤ, pos, negsuc, Option, Some, refl, sym, ap, ap₂, subst, ◌∙◌, arith, append_assoc, append-nil, length-append, take_at, drop_at, div-le_self, eq-eqb, ne_eqb}
use Rattle.std.specs.List.{prefix_len, take_while}
use Rattle.std.specs.Char.{is_ascii_digit, digit_value}
use Rattle.std.specs.Int.{IsInRange}
use Rattle.std.specs.Str.Parse.{AllDigits, digits_value}
use Rattle.std.proofs.Math.Nat.{div-div-eq-div-mul, pow-succ'}
use Rattle.std.proofs.lemmas.Bool.{cond-true, cond-false}
use Rattle.std.proofs.lemmas.Fmt.{decimal_is_IsNumeral_wide}
use Rattle.std.proofs.lemmas.Int.Digits.{digits_value_push}
use Rattle.std.proofs.lemmas.Str.{digit_value_digit}
use Rattle.sj_base.specs.ByteClasses.{is_blank, is_letter, next_is, next_is_digit}
use Rattle.sj_decimal.specs.Limits.{magnitude_limit}
use Rattle.sj_decimal.specs.Normal.{IsDecimal}
use Rattle.sj_decimal.specs.Exact.{is_exact}
use Rattle.sj_decimal.specs.Text.{last_digits, decimals_text, decimal_text}
use Rattle.sj_decimal.proofs.Digits.{digit_passes}
use Rattle.sj_decimal.proofs.Exactness.{exact_true}
use Rattle.sj_decimal.proofs.NormalForm.{IsExact-decimal, normal_decimal, whole_decimal}
use Rattle.sj_decimal.proofs.Texts.{last_digits_none, last_digits_more, length-last_digits}
use Rattle.sj_path_token.specs.Words as w
use Rattle.sj_path_token.specs.Words.{AllPass}
use Rattle.sj_path_token.proofs.Cuts.{cond_on, cond_off}
use Rattle.sj_path_token.proofs.Runs.{run_ends, run_longer}
use Rattle.sj_path_text.proofs.Numbers.{last_digits_pass}
use Rattle.sj_sql_token.specs.declared.token.Token.{Token}
use Rattle.sj_sql_token.specs.declared.token.Token.TheVariants as k
use Rattle.sj_sql_token.specs.declared.piece.Piece.{Piece}
use Rattle.sj_sql_token.specs.declared.piece.Piece.TheVariants as p
use Rattle.sj_sql_token.specs.Numbers.{value_of, exact_of, pointed, fraction_of, fraction_len}
use Rattle.sj_sql_token.specs.Tokens.{Lexed, next, number_piece, number_at, piece_at}
use Rattle.sj_sql_text.specs.Printable.{followed_by}
use Rattle.sj_sql_text.specs.Tokens.{unsigned, number_on}
use Rattle.sj_sql_text.proofs.Lexes.{apart, digit_ascii, digit_not_blank, digit_not_letter, MayFollow, no_digit, Reads, one_token}

abbrev pair : ℤ → ℕ → ℤ × ℕ
pair c s = (c, s)

-- ---- runs of digits

first : {b : ℕ} {bs : List ℕ} → AllPass is_ascii_digit (b ∷ bs) → is_ascii_digit b ≡ true
first (w.more h pass) = h

others : {b : ℕ} {bs : List ℕ} → AllPass is_ascii_digit (b ∷ bs) → AllPass is_ascii_digit bs
others (w.more h pass) = pass

digits_pass : (ds : List ℕ) → AllDigits 10 ds → AllPass is_ascii_digit ds
digits_pass [] h = w.none
digits_pass (c ∷ cs) h = w.more (digit_passes c h.0) (digits_pass cs h.1)

no_run : (rest : List ℕ) → next_is_digit rest ≡ false → prefix_len is_ascii_digit rest ≡ 0
no_run [] h = refl
no_run (b ∷ bs) h = run_ends is_ascii_digit b bs h

run_is : {ds : List ℕ} → AllPass is_ascii_digit ds → (rest : List ℕ) → next_is_digit rest ≡ false → prefix_len is_ascii_digit (ds ++ rest) ≡ length ds
run_is {ds} pass rest h = let e = run_longer pass rest in let f = no_run rest h in omega (arith, e, f)

-- ---- the digits that are read

fraction_is : (behind rest : List ℕ) → AllPass is_ascii_digit behind → MayFollow false rest → fraction_of (pointed behind ++ rest) ≡ behind
fraction_is [] [] pass h = refl
fraction_is [] (b ∷ bs) pass h = ap (λ (x : Bool). cond (x && next_is_digit bs) (take_while is_ascii_digit bs) []) h.point
fraction_is (c ∷ cs) rest pass h =
    cond_on (is_ascii_digit c) _ _ (first pass)
    (ap (λ (n : ℕ). take n (c ∷ (cs ++ rest))) (run_is pass rest (no_digit rest h)) ∙ take_at (c ∷ cs) rest (length (c ∷ cs)) refl)

no_digit_behind : (behind rest : List ℕ) → MayFollow false rest → next_is_digit (pointed behind ++ rest) ≡ false
no_digit_behind [] rest h = no_digit rest h
no_digit_behind (c ∷ cs) rest h = refl

pointed_len : (behind : List ℕ) → cond (length behind == 0) 0 (suc (length behind)) ≡ length (pointed behind)
pointed_len [] = refl
pointed_len (c ∷ cs) = ap (λ (x : Bool). cond x 0 (suc (suc (length cs)))) (ne_eqb (suc (length cs)) 0 (λ q. absurd (omega (arith, q))))

-- a number of n digits behind its first byte b, before these bytes
abbrev number_of : ℕ → List ℕ → List ℕ → ℕ → Piece
number_of b digits bytes n = number_piece (exact_of (value_of (b ∷ digits) (fraction_of bytes))) (fraction_of bytes) (n + fraction_len bytes)

number_is : (b : ℕ) (digits behind rest : List ℕ) → AllPass is_ascii_digit digits → AllPass is_ascii_digit behind → MayFollow false rest
    → number_at b (digits ++ (pointed behind ++ rest)) ≡ number_piece (exact_of (value_of (b ∷ digits) behind)) behind (length digits + length (pointed behind))
number_is b digits behind rest pass passes h =
    let after : List ℕ = pointed behind ++ rest in
    let run : prefix_len is_ascii_digit (digits ++ after) ≡ length digits = run_is pass after (no_digit_behind behind rest h) in
    ap (λ (n : ℕ). number_of b (take n (digits ++ after)) (drop n (digits ++ after)) n) run
    ∙ ap₂ (λ (x y : List ℕ). number_of b x y (length digits)) (take_at digits after (length digits) refl) (drop_at digits after (length digits) refl)
    ∙ ap (λ (x : List ℕ). number_piece (exact_of (value_of (b ∷ digits) x)) x (length digits + cond (length x == 0) 0 (suc (length x)))) (fraction_is behind rest passes h)
    ∙ ap (λ (n : ℕ). number_piece (exact_of (value_of (b ∷ digits) behind)) behind (length digits + n)) (pointed_len behind)

-- ---- the number that they stand for

exact_itself : (d : ℤ × ℕ) → IsDecimal d → exact_of d ≡ Some d
exact_itself d is = cond_on (is_exact d) _ _ (exact_true d (IsExact-decimal d is)) (ap Some (normal_decimal d is))

unsigned_piece : (d : ℤ × ℕ) (behind : List ℕ) (n : ℕ) → length behind ≡ d.1 → number_piece (Some d) behind n ≡ p.Token (unsigned d) n
unsigned_piece d [] n len = ap (λ (t : Token). p.Token t n) (sym (cond-true (d.1 == 0) (k.Whole d) (k.Fraction d) (eq-eqb d.1 0 (sym len))))
unsigned_piece d (c ∷ cs) n len =
    let some : (d.1 == 0) ≡ false = ne_eqb d.1 0 (λ q. absurd (omega (arith, q, len))) in
    ap (λ (t : Token). p.Token t n) (sym (cond-false (d.1 == 0) (k.Whole d) (k.Fraction d) some))

digit_piece : (b : ℕ) (bs : List ℕ) → is_ascii_digit b ≡ true → piece_at b bs ≡ number_at b bs
unfolding piece_at
digit_piece b bs h = cond_off (is_blank b) _ _ (digit_not_blank b h) (cond_off (is_letter b) _ _ (digit_not_letter b h) (cond_on (is_ascii_digit b) _ _ h refl))

digits_read : (digits behind : List ℕ) (d : ℤ × ℕ) → 0 < length digits → AllPass is_ascii_digit digits → AllPass is_ascii_digit behind
    → value_of digits behind ≡ d → length behind ≡ d.1 → IsDecimal d → Reads false (digits ++ pointed behind) (next (unsigned d))
digits_read [] behind d some pass passes value len is = absurd (omega (arith, some))
digits_read (b ∷ digits) behind d some pass passes value len is = record {
  reads = λ rest h. one_token b (digits ++ pointed behind) rest (unsigned d) (length digits + length (pointed behind)) (piece rest h) (sym (length-append digits (pointed behind)));
}
  where
    piece : (rest : List ℕ) → MayFollow false rest → piece_at b ((digits ++ pointed behind) ++ rest) ≡ p.Token (unsigned d) (length digits + length (pointed behind))
    piece rest h =
        let n : ℕ = length digits + length (pointed behind) in
        ap (λ (l : List ℕ). piece_at b l) (append_assoc digits (pointed behind) rest)
        ∙ digit_piece b (digits ++ (pointed behind ++ rest)) (first pass)
        ∙ number_is b digits behind rest (others pass) passes h
        ∙ ap (λ (v : ℤ × ℕ). number_piece (exact_of v) behind n) value
        ∙ ap (λ (o : Option (ℤ × ℕ)). number_piece o behind n) (exact_itself d is)
        ∙ unsigned_piece d behind n len

-- ---- the digits of a decimal

glyph_value : (r : ℕ) → r < 10 → digit_value (48 + r) ≡ r
glyph_value r small =
    let range : IsInRange 48 57 (48 + r) = (omega arith, omega (arith, small)) in
    let value : digit_value (48 + r) + 48 ≡ 48 + r = digit_value_digit (48 + r) range in
    omega (arith, value)

all_digits : (s m : ℕ) → m < 10 ^ 64 → digits_value 10 (decimal (m / 10 ^ s) ++ last_digits s m) ≡ m
all_digits zero m small =
    let whole : m / 10 ^ 0 ≡ m = omega arith in
    ap (λ (ds : List ℕ). digits_value 10 (decimal (m / 10 ^ 0) ++ ds)) (last_digits_none m)
    ∙ ap (digits_value 10) (append-nil (decimal (m / 10 ^ 0)))
    ∙ ap (λ (n : ℕ). digits_value 10 (decimal n)) whole
    ∙ (decimal_is_IsNumeral_wide m small).1
all_digits (suc s) m small =
    let front : List ℕ = decimal (m / 10 / 10 ^ s) ++ last_digits s (m / 10) in
    let quotient : m / 10 / 10 ^ s ≡ m / 10 ^ suc s = div-div-eq-div-mul m 10 (10 ^ s) ∙ ap (λ (q : ℕ). m / q) (sym (pow-succ' 10 s)) in
    let tenth : digits_value 10 front ≡ m / 10 = all_digits s (m / 10) (omega (arith, small)) in
    let last : digit_value (48 + m % 10) ≡ m % 10 = glyph_value (m % 10) (omega arith) in
    ap₂ (λ (q : ℕ) (ds : List ℕ). digits_value 10 (decimal q ++ ds)) (sym quotient) (last_digits_more s m)
    ∙ ap (digits_value 10) (sym (append_assoc (decimal (m / 10 / 10 ^ s)) (last_digits s (m / 10)) ((48 + m % 10) ∷ [])))
    ∙ digits_value_push 10 front (48 + m % 10)
    ∙ ap₂ (λ (x y : ℕ). x * 10 + y) tenth last
    ∙ omega arith

decimals_are : (s m : ℕ) → pointed (last_digits s m) ≡ decimals_text s m
decimals_are zero m = ap pointed (last_digits_none m)
decimals_are (suc s) m = go (last_digits (suc s) m) (length-last_digits (suc s) m)
  where
    go : (ds : List ℕ) → length ds ≡ suc s → pointed ds ≡ 46 ∷ ds
    go [] len = absurd (omega (arith, len))
    go (c ∷ cs) len = refl

whole_digits : (m s : ℕ) → IsDecimal (pair (pos m) s) → (0 < length (decimal (m / 10 ^ s))) × AllPass is_ascii_digit (decimal (m / 10 ^ s))
whole_digits m s is =
    let least : m / 10 ^ s < 10 ^ 64 = omega (arith, div-le_self m (10 ^ s), is.limits.coefficient) in
    let numeral = decimal_is_IsNumeral_wide (m / 10 ^ s) least in (numeral.0.0, digits_pass (decimal (m / 10 ^ s)) numeral.0.1)

pub unsigned_reads : (m s : ℕ) → IsDecimal (pair (pos m) s) → Reads false (decimal (m / 10 ^ s) ++ decimals_text s m) (next (unsigned (pair (pos m) s)))
unsigned_reads m s is =
    let small : m < 10 ^ 64 = omega (arith, is.limits.coefficient) in
    let whole = whole_digits m s is in
    let value : value_of (decimal (m / 10 ^ s)) (last_digits s m) ≡ pair (pos m) s = ap₂ (λ (x y : ℕ). pair (pos x) y) (all_digits s m small) (length-last_digits s m) in
    subst (λ (l : List ℕ). Reads false (decimal (m / 10 ^ s) ++ l) (next (unsigned (pair (pos m) s)))) (decimals_are s m)
    (digits_read (decimal (m / 10 ^ s)) (last_digits s m) (pair (pos m) s) whole.0 whole.1 (last_digits_pass s m) value (length-last_digits s m) is)

pub count_reads : (n : ℕ) → n < magnitude_limit → Reads false (decimal n) (next (k.Whole (pair (pos n) 0)))
count_reads n small =
    let whole : n / 10 ^ 0 ≡ n = omega arith in
    subst (λ (l : List ℕ). Reads false l (next (k.Whole (pair (pos n) 0)))) (append-nil (decimal (n / 10 ^ 0)) ∙ ap decimal whole) (unsigned_reads n 0 (whole_decimal false n small))

-- ---- a sign before it

minus_piece : (bs : List ℕ) → next_is 45 bs ≡ false → piece_at 45 bs ≡ p.Token k.Minus 0
unfolding piece_at
minus_piece bs h = cond_off (next_is 45 bs) _ _ h refl

minus_reads : {text : List ℕ} {f : Lexed → Lexed} → Reads false text f → ((rest : List ℕ) → next_is 45 (text ++ rest) ≡ false) → Reads false (45 ∷ text) (λ more. next k.Minus (f more))
minus_reads {text} {f} x single = record {
  reads = λ rest h. one_token 45 [] (text ++ rest) k.Minus 0 (minus_piece (text ++ rest) (single rest)) refl ∙ ap (next k.Minus) (x.reads rest h);
}

no_minus : (digits rest : List ℕ) → 0 < length digits → AllPass is_ascii_digit digits → next_is 45 (digits ++ rest) ≡ false
no_minus [] rest some pass = absurd (omega (arith, some))
no_minus (c ∷ cs) rest some pass = apart is_ascii_digit (λ b. b == 45) refl c (digit_ascii c (first pass)) (first pass)

signed_reads : (c : ℤ) (s : ℕ) → IsDecimal (pair c s) → Reads false (decimal_text (pair c s)) (followed_by (number_on (pair c s) []))
signed_reads (pos m) s is = unsigned_reads m s is
signed_reads (negsuc n) s is = minus_reads (unsigned_reads (suc n) s positive) single
  where
    positive : IsDecimal (pair (pos (suc n)) s)
    positive = record { normal = is.normal; limits = record { coefficient = is.limits.coefficient; scale = is.limits.scale } }

    single : (rest : List ℕ) → next_is 45 ((decimal (suc n / 10 ^ s) ++ decimals_text s (suc n)) ++ rest) ≡ false
    single rest =
        let whole = whole_digits (suc n) s positive in
        ap (next_is 45) (append_assoc (decimal (suc n / 10 ^ s)) (decimals_text s (suc n)) rest)
        ∙ no_minus (decimal (suc n / 10 ^ s)) (decimals_text s (suc n) ++ rest) whole.0 whole.1

pub number_reads : (d : ℤ × ℕ) → IsDecimal d → Reads false (decimal_text d) (followed_by (number_on d []))
number_reads d is = signed_reads d.0 d.1 is
