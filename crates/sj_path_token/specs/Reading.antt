-- Reading tokens from left to right, as functions. A number of bytes stands beside what was read.
use Rattle.std.specs.Prelude.{ℕ, zero, suc, ◌+◌, Bool, false, ◌&&◌, ◌||◌, ◌==◌, ℤ, List, [], ◌∷◌, ◌++◌, length, take, drop, Option, Some, None, if◌then◌else◌, encode_utf8}
use Rattle.std.specs.List.{prefix_len}
use Rattle.std.specs.Char.{is_ascii_digit}
use Rattle.std.specs.Char.Utf16.{is_high_surrogate, is_low_surrogate, surrogate_pair_char}
use Rattle.sj_base.specs.ByteClasses.{is_blank, is_letter, is_word_byte, is_plain, next_is, next_is_digit, letter_char}
use Rattle.sj_base.specs.Options.{◌>>=◌}
use Rattle.sj_decimal.specs.declared.comparing.Compare.TheVariants as c
use Rattle.sj_path_token.specs.declared.token.Token.{Token}
use Rattle.sj_path_token.specs.declared.token.Token.TheVariants as k
use Rattle.sj_path_token.specs.Words.{keyword_of}
use Rattle.sj_path_token.specs.Strings.{unit_of}
use Rattle.sj_decimal.specs.Normal.{normal}
use Rattle.sj_decimal.specs.Exact.{is_exact}
use Rattle.sj_decimal.specs.Number.{value_of}
use Rattle.sj_decimal.specs.Reading.{read_parts}

abbrev pub next_is_letter : List ℕ → Bool
next_is_letter [] = false
next_is_letter (d ∷ bs) = is_letter d

-- ---- signs

-- a sign that begins no other
abbrev pub single_sign : ℕ → Option Token
single_sign b =
    if b == 46 then Some k.Dot
    else (if b == 42 then Some k.Star
    else (if b == 91 then Some k.OpenBracket
    else (if b == 93 then Some k.CloseBracket
    else (if b == 40 then Some k.Open
    else (if b == 41 then Some k.Close
    else (if b == 44 then Some k.Comma
    else (if b == 63 then Some k.Question
    else (if b == 43 then Some k.Plus
    else (if b == 45 then Some k.Minus
    else (if b == 47 then Some k.Slash
    else (if b == 37 then Some k.Percent
    else (if b == 64 then Some k.At
    else None))))))))))))

abbrev pub one : Token → Option (Token × ℕ)
one t = Some (t, 1)

-- the sign of two bytes where this byte follows, and else the other
abbrev pub longer : ℕ → Token → Option (Token × ℕ) → List ℕ → Option (Token × ℕ)
longer b two other bs = if next_is b bs then Some (two, 2) else other

-- the sign that begins with the byte b
abbrev pub sign_at : ℕ → List ℕ → Option (Token × ℕ)
sign_at b bs =
    if b == 61 then longer 61 (k.Compare c.Eq) None bs
    else (if b == 33 then longer 61 (k.Compare c.Ne) (one k.Not) bs
    else (if b == 60 then longer 62 (k.Compare c.Ne) (longer 61 (k.Compare c.Le) (one (k.Compare c.Lt)) bs) bs
    else (if b == 62 then longer 61 (k.Compare c.Ge) (one (k.Compare c.Gt)) bs
    else (if b == 38 then longer 38 k.And None bs
    else (if b == 124 then longer 124 k.Or None bs
    else (single_sign b >>= one))))))

-- ---- strings

abbrev pub unit_at : List ℕ → Option ℕ
unit_at (a ∷ b ∷ c ∷ d ∷ bs) = unit_of a b c d
unit_at _ = None

-- the second half of a pair of surrogates
abbrev pub low_at : List ℕ → Option ℕ
low_at (x ∷ y ∷ bs) = if x == 92 && y == 117 then (unit_at bs >>= λ low. if is_low_surrogate low then Some low else None) else None
low_at _ = None

-- behind a backslash and u
abbrev pub character_at : List ℕ → Option (ℕ × ℕ)
character_at bs = unit_at bs >>= λ u.
    if is_high_surrogate u then (low_at (drop 4 bs) >>= λ low. Some (surrogate_pair_char u low, 11))
    else (if is_low_surrogate u then None else Some (u, 5))

-- behind a backslash
unfoldable pub escape_at : List ℕ → Option (ℕ × ℕ)
escape_at [] = None
escape_at (e ∷ bs) = if e == 117 then character_at bs else (letter_char e >>= λ c. Some (c, 1))

-- where plain bytes end, with inside to read what follows an escape
abbrev pub behind_run : (List ℕ → Option (List ℕ × ℕ)) → List ℕ → Option (List ℕ × ℕ)
behind_run inside rest =
    if next_is 34 rest then Some ([], 1)
    else (if next_is 92 rest
    then (escape_at (drop 1 rest) >>= λ e. inside (drop e.1 (drop 1 rest)) >>= λ more. Some (encode_utf8 e.0 ++ more.0, 1 + e.1 + more.1))
    else None)

abbrev pub behind : List ℕ → ℕ → List ℕ × ℕ → Option (List ℕ × ℕ)
behind front n s = Some (front ++ s.0, n + s.1)

-- behind the first quotation mark: the text of the string, and how many bytes it has up to its end
unfoldable pub inside_from : ℕ → List ℕ → Option (List ℕ × ℕ)
inside_from zero bs = None
inside_from (suc n) bs = behind_run (inside_from n) (drop (prefix_len is_plain bs) bs) >>= behind (take (prefix_len is_plain bs) bs) (prefix_len is_plain bs)

-- ---- numbers

-- how many bytes the longest number at the front has, part by part
abbrev pub whole_len : List ℕ → ℕ
whole_len bs = if next_is 48 bs then 1 else prefix_len is_ascii_digit bs

abbrev pub fraction_len : List ℕ → ℕ
fraction_len [] = 0
fraction_len (b ∷ bs) = if b == 46 && next_is_digit bs then prefix_len is_ascii_digit bs + 1 else 0

abbrev pub sign_len : List ℕ → ℕ
sign_len bs = if next_is 43 bs || next_is 45 bs then 1 else 0

abbrev pub digits_len : ℕ → List ℕ → ℕ
digits_len before bs = if next_is_digit bs then before + prefix_len is_ascii_digit bs else 0

abbrev pub exponent_len : List ℕ → ℕ
exponent_len [] = 0
exponent_len (b ∷ bs) = if b == 101 || b == 69 then digits_len (sign_len bs + 1) (drop (sign_len bs) bs) else 0

-- behind the whole digits
abbrev pub rest_len : List ℕ → ℕ
rest_len bs = fraction_len bs + exponent_len (drop (fraction_len bs) bs)

unfoldable pub number_len : List ℕ → ℕ
number_len bs = whole_len bs + rest_len (drop (whole_len bs) bs)

abbrev pub exact_number : ℤ × ℕ → Option Token
exact_number v = if is_exact v then Some (k.Number (normal v)) else None

unfoldable pub number_token : List ℕ → Option Token
number_token digits = read_parts digits >>= λ p. exact_number (value_of p)

unfoldable pub number_at : List ℕ → Option (Option Token × ℕ)
number_at bs = Some (number_token (take (number_len bs) bs), number_len bs)

-- ---- tokens

unfoldable pub word_at : List ℕ → Option (Option Token × ℕ)
word_at bs = let n = prefix_len is_word_byte bs in Some (Some (k.Word (keyword_of (take n bs)) (take n bs)), n)

-- behind a dollar sign
unfoldable pub dollar_at : List ℕ → Option (Option Token × ℕ)
dollar_at bs =
    if next_is_letter bs then Some (Some (k.Variable (take (prefix_len is_word_byte bs) bs)), prefix_len is_word_byte bs + 1)
    else Some (Some k.Root, 1)

-- behind a quotation mark
abbrev pub quoted : List ℕ × ℕ → Option (Option Token × ℕ)
quoted s = Some (Some (k.Quoted s.0), s.1 + 1)

unfoldable pub string_at : List ℕ → Option (Option Token × ℕ)
string_at bs = inside_from (length bs) bs >>= quoted

abbrev pub whole : Token × ℕ → Option (Option Token × ℕ)
whole s = Some (Some s.0, s.1)

-- the longest form of a token at the front of b and bs. `None` stands for a number that is not exact.
unfoldable pub form_from : ℕ → List ℕ → Option (Option Token × ℕ)
form_from b bs =
    if is_letter b then word_at (b ∷ bs)
    else (if is_ascii_digit b then number_at (b ∷ bs)
    else (if b == 34 then string_at bs
    else (if b == 36 then dollar_at bs
    else (sign_at b bs >>= whole))))

abbrev pub form_at : List ℕ → Option (Option Token × ℕ)
form_at [] = None
form_at (b ∷ bs) = form_from b bs

-- that token, unless it is a number that is not exact
abbrev pub exact : Option Token × ℕ → Option (Token × ℕ)
exact f = f.0 >>= λ t. Some (t, f.1)

abbrev pub exactly : Option (Option Token × ℕ) → Option (Token × ℕ)
exactly form = form >>= exact

unfoldable pub token_at : List ℕ → Option (Token × ℕ)
token_at bs = exactly (form_at bs)

-- The number bounds the turns. Each takes a byte, so that the length of the text is enough.
unfoldable pub lex_from : ℕ → List ℕ → Option (List Token)
lex_from zero bs = Some []
lex_from (suc n) [] = Some []
lex_from (suc n) (b ∷ bs) =
    if is_blank b then lex_from n bs
    else (token_at (b ∷ bs) >>= λ t. lex_from n (drop t.1 (b ∷ bs)) >>= λ ts. Some (t.0 ∷ ts))

unfoldable pub lex : List ℕ → Option (List Token)
lex bs = lex_from (length bs) bs
