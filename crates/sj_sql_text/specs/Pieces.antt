-- What a canonical text is made of, and how it is printed. The rules on blanks stand here alone: one blank stands between two
-- pieces, and none before a comma, a semicolon or a closing parenthesis, nor behind an opening one.
use Rattle.std.specs.Prelude.{ℕ, ◌==◌, Bool, true, false, ◌||◌, List, [], ◌∷◌, ◌++◌, ℤ, decimal, codes, if◌then◌else◌}
use Rattle.sj_decimal.specs.Text.{decimal_text}

pub data Piece : Type 0 where
  Word : (text : List ℕ) → Piece
  -- the name of a function or of a type, and the parenthesis that it opens
  Call : (name : List ℕ) → Piece
  -- a name between double quotation marks
  Name : (text : List ℕ) → Piece
  -- a string between single quotation marks
  String : (text : List ℕ) → Piece
  Number : (d : ℤ × ℕ) → Piece
  Count : (n : ℕ) → Piece
  Open : Piece
  Close : Piece
  Comma : Piece
  Star : Piece
  Semicolon : Piece

abbrev pub Pieces : Type 0
Pieces = List Piece

-- a mark in the text is written twice
abbrev pub doubled : ℕ → List ℕ → List ℕ
doubled mark [] = []
doubled mark (b ∷ bs) = if b == mark then mark ∷ mark ∷ doubled mark bs else b ∷ doubled mark bs

-- between two marks
abbrev pub quoted : ℕ → List ℕ → List ℕ
quoted mark text = mark ∷ (doubled mark text ++ mark ∷ [])

abbrev pub piece_text : Piece → List ℕ
piece_text (Word text) = text
piece_text (Call name) = name ++ codes "("
piece_text (Name text) = quoted 34 text
piece_text (String text) = quoted 39 text
piece_text (Number d) = decimal_text d
piece_text (Count n) = decimal n
piece_text Open = codes "("
piece_text Close = codes ")"
piece_text Comma = codes ","
piece_text Star = codes "*"
piece_text Semicolon = codes ";"

-- it ends in an opening parenthesis
abbrev pub opens : Piece → Bool
opens (Call name) = true
opens Open = true
opens _ = false

-- no blank stands before it
abbrev pub leans : Piece → Bool
leans Close = true
leans Comma = true
leans Semicolon = true
leans _ = false

-- what stands before a piece; the flag is true at the beginning of the text and behind an opening parenthesis
abbrev pub gap : Bool → Piece → List ℕ
gap fresh p = if fresh || leans p then [] else codes " "

abbrev pub text_behind : Bool → Pieces → List ℕ
text_behind fresh [] = []
text_behind fresh (p ∷ ps) = (gap fresh p ++ piece_text p) ++ text_behind (opens p) ps

-- the text of the pieces
abbrev pub text_of : Pieces → List ℕ
text_of ps = text_behind true ps
