-- The tokens that pieces stand for.
use Rattle.std.specs.Prelude.{ℕ, ◌==◌, List, [], ◌∷◌, ℤ, pos, if◌then◌else◌}
use Rattle.sj_decimal.specs.Signed.{is_negative}
use Rattle.sj_sql_token.specs.declared.token.Token.{Token}
use Rattle.sj_sql_token.specs.declared.token.Token.TheVariants as k
use Rattle.sj_sql_token.specs.Keywords.{keyword_of}
use Rattle.sj_sql_grammar.specs.Phrases.{Tokens, negated}
use Rattle.sj_sql_text.specs.Pieces.{Piece, Word, Call, Name, String, Number, Count, Open, Close, Comma, Star, Semicolon, Pieces}

abbrev pub word_token : List ℕ → Token
word_token text = k.Word (keyword_of text) text

-- a number without a sign has a point where it has decimals
abbrev pub unsigned : ℤ × ℕ → Token
unsigned d = if d.1 == 0 then k.Whole d else k.Fraction d

abbrev pub number_on : ℤ × ℕ → Tokens → Tokens
number_on d ts = if is_negative d.0 then k.Minus ∷ unsigned (negated d) ∷ ts else unsigned d ∷ ts

abbrev pub piece_on : Piece → Tokens → Tokens
piece_on (Word text) ts = word_token text ∷ ts
piece_on (Call name) ts = word_token name ∷ k.Open ∷ ts
piece_on (Name text) ts = k.Quoted text ∷ ts
piece_on (String text) ts = k.String text ∷ ts
piece_on (Number d) ts = number_on d ts
piece_on (Count n) ts = k.Whole (pos n, 0) ∷ ts
piece_on Open ts = k.Open ∷ ts
piece_on Close ts = k.Close ∷ ts
piece_on Comma ts = k.Comma ∷ ts
piece_on Star ts = k.Star ∷ ts
piece_on Semicolon ts = k.Semicolon ∷ ts

abbrev pub tokens_of : Pieces → Tokens
tokens_of [] = []
tokens_of (p ∷ ps) = piece_on p (tokens_of ps)
