-- The text of printable pieces is in UTF-8.
use Rattle.std.proofs.Common.{ℕ, zero, suc, ◌/◌, ◌^◌, ◌<◌, Bool, true, false, cond, ◌||◌, List, [], ◌∷◌, ◌++◌, decimal, unsigned_abs, ℤ, codes, arith, div-le_self, IsUtf8}
use Rattle.std.specs.Fmt.{sign_text}
use Rattle.std.specs.List.{AllByRecursion}
use Rattle.std.proofs.lemmas.Fmt.{IsAscii-decimal_wide}
use Rattle.std.proofs.lemmas.Str.{IsUtf8-append, IsUtf8-nil, IsUtf8-from_ascii}
use Rattle.sj_decimal.specs.Normal.{IsDecimal}
use Rattle.sj_decimal.specs.Signed.{is_negative}
use Rattle.sj_decimal.specs.Text.{decimals_text, decimal_text}
use Rattle.sj_path_text.proofs.Lexing.{word_is}
use Rattle.sj_path_text.proofs.Numbers.{last_digits_pass}
use Rattle.sj_path_text.proofs.Utf8.{one_more, passing, word_utf8}
use Rattle.sj_sql_text.specs.Pieces.{Piece, Word, Call, Name, String, Number, Count, Open, Close, Comma, Star, Semicolon, Pieces, quoted, doubled, piece_text, opens, leans, gap, text_behind}
use Rattle.sj_sql_text.specs.Printable.{IsPrintable}
use Rattle.sj_sql_text.proofs.Lexes.{digit_ascii}
use Rattle.sj_sql_text.proofs.QuotedTexts.{doubled_behind}

one_byte : (b : ℕ) → b < 128 → IsUtf8 (b ∷ [])
one_byte b low = one_more b low IsUtf8-nil

quoted_utf8 : (mark : ℕ) → mark < 128 → (text : List ℕ) → IsUtf8 text → IsUtf8 (quoted mark text)
quoted_utf8 mark low text u = one_more mark low (IsUtf8-append (doubled mark text) (mark ∷ []) (doubled_behind mark low text [] u) (one_byte mark low))

-- ---- numbers

whole_utf8 : (n : ℕ) → n < 10 ^ 64 → IsUtf8 (decimal n)
whole_utf8 n small = IsUtf8-from_ascii (decimal n) (IsAscii-decimal_wide n small)

decimals_utf8 : (s m : ℕ) → IsUtf8 (decimals_text s m)
decimals_utf8 zero m = IsUtf8-nil
decimals_utf8 (suc s) m = one_more 46 (omega arith) (passing digit_ascii (last_digits_pass (suc s) m))

sign_utf8 : (negative : Bool) → IsUtf8 (sign_text negative)
sign_utf8 true = one_byte 45 (omega arith)
sign_utf8 false = IsUtf8-nil

number_utf8 : (d : ℤ × ℕ) → IsDecimal d → IsUtf8 (decimal_text d)
number_utf8 d is =
    let m : ℕ = unsigned_abs d.0 in
    let whole : m / 10 ^ d.1 < 10 ^ 64 = omega (arith, div-le_self m (10 ^ d.1), is.limits.coefficient) in
    IsUtf8-append (sign_text (is_negative d.0)) (decimal (m / 10 ^ d.1) ++ decimals_text d.1 m) (sign_utf8 (is_negative d.0))
    (IsUtf8-append (decimal (m / 10 ^ d.1)) (decimals_text d.1 m) (whole_utf8 (m / 10 ^ d.1) whole) (decimals_utf8 d.1 m))

-- ---- pieces

piece_utf8 : (p : Piece) → IsPrintable p → IsUtf8 (piece_text p)
piece_utf8 (Word text) h = word_utf8 text (word_is text h)
piece_utf8 (Call name) h = IsUtf8-append name (40 ∷ []) (word_utf8 name (word_is name h)) (one_byte 40 (omega arith))
piece_utf8 (Name text) h = quoted_utf8 34 (omega arith) text h.1
piece_utf8 (String text) h = quoted_utf8 39 (omega arith) text h
piece_utf8 (Number d) h = number_utf8 d h
piece_utf8 (Count n) h = whole_utf8 n (omega (arith, h))
piece_utf8 Open h = one_byte 40 (omega arith)
piece_utf8 Close h = one_byte 41 (omega arith)
piece_utf8 Comma h = one_byte 44 (omega arith)
piece_utf8 Star h = one_byte 42 (omega arith)
piece_utf8 Semicolon h = one_byte 59 (omega arith)

gap_utf8 : (fresh : Bool) (p : Piece) → IsUtf8 (gap fresh p)
gap_utf8 fresh p = go (fresh || leans p)
  where
    go : (x : Bool) → IsUtf8 (cond x [] (codes " "))
    go true = IsUtf8-nil
    go false = one_byte 32 (omega arith)

pub text_utf8 : (fresh : Bool) (ps : Pieces) → AllByRecursion IsPrintable ps → IsUtf8 (text_behind fresh ps)
text_utf8 fresh [] h = IsUtf8-nil
text_utf8 fresh (p ∷ ps) h =
    IsUtf8-append (gap fresh p ++ piece_text p) (text_behind (opens p) ps) (IsUtf8-append (gap fresh p) (piece_text p) (gap_utf8 fresh p) (piece_utf8 p h.0)) (text_utf8 (opens p) ps h.1)
