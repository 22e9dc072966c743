-- The tokens of a file, taken from left to right, each the longest that fits.
use Rattle.std.specs.Prelude.{ℕ, zero, suc, ◌+◌, not, ◌&&◌, ◌==◌, ℤ, List, [], ◌∷◌, take, drop, Option, Some, None, if◌then◌else◌}
use Rattle.std.specs.List.{take_while, prefix_len}
use Rattle.std.specs.Str.{is_utf8}
use Rattle.std.specs.Char.{is_ascii_digit}
use Rattle.sj_base.specs.ByteClasses.{is_blank, is_letter, is_word_byte, next_is}
use Rattle.sj_sql_token.specs.declared.token.Token.{Token}
use Rattle.sj_sql_token.specs.declared.token.Token.TheVariants as k
use Rattle.sj_sql_token.specs.declared.piece.Piece.{Piece}
use Rattle.sj_sql_token.specs.declared.piece.Piece.TheVariants as p
use Rattle.sj_sql_token.specs.Keywords.{keyword_of}
use Rattle.sj_sql_token.specs.Quotes.{inside_len, undoubled}
use Rattle.sj_sql_token.specs.Numbers.{exact_of, value_of, fraction_of, fraction_len}

-- what a file breaks into: its tokens, up to its end or to the first piece that is no token
pub data Lexed : Type 0 where
  end : Lexed
  fault : Lexed
  next : Token → Lexed → Lexed

abbrev pub sign_of : ℕ → Piece
sign_of b =
    if b == 40 then p.Token k.Open 0
    else (if b == 41 then p.Token k.Close 0
    else (if b == 44 then p.Token k.Comma 0
    else (if b == 59 then p.Token k.Semicolon 0
    else (if b == 58 then p.Token k.Colon 0
    else (if b == 42 then p.Token k.Star 0
    else (if b == 43 then p.Token k.Plus 0
    else (if b == 45 then p.Token k.Minus 0
    else p.Broken)))))))

-- a word, of which b is the first letter
abbrev pub word_at : ℕ → List ℕ → Piece
word_at b bs = let text = b ∷ take_while is_word_byte bs in p.Token (k.Word (keyword_of text) text) (prefix_len is_word_byte bs)

-- a number with these digits behind its point; one that is not exact is no token
abbrev pub number_piece : Option (ℤ × ℕ) → List ℕ → ℕ → Piece
number_piece None fraction n = p.Broken
number_piece (Some d) [] n = p.Token (k.Whole d) n
number_piece (Some d) (b ∷ bs) n = p.Token (k.Fraction d) n

-- a number, of which b is the first digit
abbrev pub number_at : ℕ → List ℕ → Piece
number_at b bs =
    let n = prefix_len is_ascii_digit bs in
    let fraction = fraction_of (drop n bs) in
    number_piece (exact_of (value_of (b ∷ take_while is_ascii_digit bs) fraction)) fraction (n + fraction_len (drop n bs))

-- behind an opening mark: what is inside a string, and a quoted name, if it is closed
abbrev pub string_end : List ℕ → Option ℕ
string_end bs = inside_len 39 bs

abbrev pub name_end : List ℕ → Option ℕ
name_end bs = inside_len 34 bs

-- behind a quotation mark: a string, of any characters
abbrev pub string_piece : List ℕ → Option ℕ → Piece
string_piece bs None = p.Broken
string_piece bs (Some n) = if is_utf8 (take n bs) then p.Token (k.String (undoubled 39 (take n bs))) (n + 1) else p.Broken

-- behind two quotation marks in one: a name, of one character at least
abbrev pub name_piece : List ℕ → Option ℕ → Piece
name_piece bs None = p.Broken
name_piece bs (Some zero) = p.Broken
name_piece bs (Some n) = if is_utf8 (take n bs) then p.Token (k.Quoted (undoubled 34 (take n bs))) (n + 1) else p.Broken

-- behind the first minus sign of a comment, which ends before the next LF or at the end of the file
abbrev pub comment_at : List ℕ → Piece
comment_at bs = let n = prefix_len (λ b. not (b == 10)) bs in if is_utf8 (take n bs) then p.Passed n else p.Broken

-- The longest piece that begins with the byte b, before the bytes bs. By the law `longest_pieces` no longer front has a form.
unfoldable pub piece_at : ℕ → List ℕ → Piece
piece_at b bs =
    if is_blank b then p.Passed 0
    else (if is_letter b then word_at b bs
    else (if is_ascii_digit b then number_at b bs
    else (if b == 39 then string_piece bs (string_end bs)
    else (if b == 34 then name_piece bs (name_end bs)
    else (if b == 45 && next_is 45 bs then comment_at bs
    else sign_of b)))))

-- what follows a piece
abbrev pub behind_piece : Piece → (ℕ → Lexed) → Lexed
behind_piece (p.Token t n) more = next t (more n)
behind_piece (p.Passed n) more = more n
behind_piece p.Broken more = fault

-- what the bytes behind the first k break into
unfoldable pub lexed_behind : ℕ → List ℕ → Lexed
lexed_behind k [] = end
lexed_behind (suc k) (b ∷ bs) = lexed_behind k bs
lexed_behind zero (b ∷ bs) = behind_piece (piece_at b bs) (λ n. lexed_behind n bs)

-- what a file breaks into, from its start on
unfoldable pub lexed : List ℕ → Lexed
lexed file = lexed_behind 0 file
