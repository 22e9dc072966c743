-- The text of a string, between its quotation marks (RFC 8259, section 7). It is cut into pieces: bytes that
-- stand for themselves, and escapes.
use Rattle.std.specs.Prelude.{◌≡◌, ℕ, List, [], ◌∷◌, ◌++◌, length, true, false, Option, Some, None}
use Rattle.std.specs.List.{AllByRecursion, flat_map}
use Rattle.std.specs.Char.{encode_utf8}
use Rattle.std.specs.Str.Parse.{AllDigits, digits_value}
use Rattle.std.specs.Char.Utf16.{is_high_surrogate, is_low_surrogate, surrogate_pair_char}
use Rattle.sj_base.specs.ByteClasses.{is_plain, letter_char}

abbrev pub IsPlain : ℕ → Type 0
IsPlain b = is_plain b ≡ true

-- four hexadecimal digits, in either case, and the number that they write
abbrev pub IsHex : List ℕ → Type 0
IsHex ds = AllDigits 16 ds × (length ds ≡ 4)

abbrev pub code : List ℕ → ℕ
code ds = digits_value 16 ds

pub data Piece : Type 0 where
  plain : ℕ → Piece
  -- a backslash and the letter
  letter : ℕ → Piece
  -- "\u" and the digits
  unicode : List ℕ → Piece
  -- the same twice
  pair : List ℕ → List ℕ → Piece

abbrev pub IsPiece : Piece → Type 0
IsPiece (plain b) = IsPlain b
IsPiece (letter c) = (v : ℕ) × (letter_char c ≡ Some v)
IsPiece (unicode ds) = IsHex ds × (is_high_surrogate (code ds) ≡ false) × (is_low_surrogate (code ds) ≡ false)
IsPiece (pair hs ls) = IsHex hs × (is_high_surrogate (code hs) ≡ true) × IsHex ls × (is_low_surrogate (code ls) ≡ true)

abbrev pub piece_bytes : Piece → List ℕ
piece_bytes (plain b) = b ∷ []
piece_bytes (letter c) = 92 ∷ c ∷ []
piece_bytes (unicode ds) = 92 ∷ 117 ∷ ds
piece_bytes (pair hs ls) = 92 ∷ 117 ∷ hs ++ 92 ∷ 117 ∷ ls

abbrev pub char_text : Option ℕ → List ℕ
char_text None = []
char_text (Some c) = encode_utf8 c

abbrev pub piece_text : Piece → List ℕ
piece_text (plain b) = b ∷ []
piece_text (letter c) = char_text (letter_char c)
piece_text (unicode ds) = encode_utf8 (code ds)
piece_text (pair hs ls) = encode_utf8 (surrogate_pair_char (code hs) (code ls))

-- the text s is written as b
pub record Writes (s : List ℕ) (b : List ℕ) : Type 0 where
  pub pieces : List Piece
  pub good : AllByRecursion IsPiece pieces
  pub text : s ≡ flat_map piece_text pieces
  pub bytes : b ≡ flat_map piece_bytes pieces

-- a string with its quotation marks
abbrev pub Quoted : List ℕ → List ℕ → Type 0
Quoted s b = (m : List ℕ) × Writes s m × (b ≡ 34 ∷ m ++ 34 ∷ [])
