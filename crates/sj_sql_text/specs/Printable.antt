-- Which pieces are read back from their text, and before which texts.
use Rattle.std.specs.Prelude.{◌≡◌, ◌≢◌, ℕ, ◌<◌, Bool, true, false, ◌&&◌, List, [], ◌∷◌, IsUtf8}
use Rattle.std.specs.List.{list_all}
use Rattle.sj_base.specs.ByteClasses.{is_blank, is_letter, is_word_byte}
use Rattle.sj_decimal.specs.Limits.{magnitude_limit}
use Rattle.sj_decimal.specs.Normal.{IsDecimal}
use Rattle.sj_sql_token.specs.Tokens.{Lexed, next}
use Rattle.sj_sql_grammar.specs.Phrases.{Tokens}
use Rattle.sj_sql_text.specs.Pieces.{Piece, Word, Call, Name, String, Number, Count}

-- a letter, and then letters and digits
abbrev pub is_word : List ℕ → Bool
is_word [] = false
is_word (b ∷ bs) = is_letter b && list_all is_word_byte bs

-- The piece is read back from its text: a word is one, a name is not empty, characters are in UTF-8, and a number is exact and in
-- normal form. A sign always is.
abbrev pub IsPrintable : Piece → Type 0
IsPrintable (Word text) = is_word text ≡ true
IsPrintable (Call name) = is_word name ≡ true
IsPrintable (Name text) = (text ≢ []) × IsUtf8 text
IsPrintable (String text) = IsUtf8 text
IsPrintable (Number d) = IsDecimal d
IsPrintable (Count n) = n < magnitude_limit
IsPrintable _ = Unit {0}

-- it is empty or begins with a blank, so that no token goes on into it
abbrev pub starts_apart : List ℕ → Bool
starts_apart [] = true
starts_apart (b ∷ bs) = is_blank b

-- these tokens, and behind them the rest
abbrev pub followed_by : Tokens → Lexed → Lexed
followed_by [] rest = rest
followed_by (t ∷ ts) rest = next t (followed_by ts rest)
