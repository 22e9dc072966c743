-- The forms of the pieces of a file. By the law `longest_pieces` a piece is the longest front that has one.
use Rattle.std.specs.Prelude.{◌≡◌, ◌≢◌, ℕ, ◌<◌, ◌≤◌, true, ℤ, List, [], ◌∷◌, ◌++◌, length, All, Option, Some, None, codes, if◌then◌else◌}
use Rattle.std.specs.List.{AllPass}
use Rattle.std.specs.Str.{is_utf8}
use Rattle.std.specs.Char.{is_ascii_digit}
use Rattle.sj_base.specs.ByteClasses.{is_blank, is_letter, is_word_byte}
use Rattle.sj_sql_token.specs.declared.token.Token.{Token}
use Rattle.sj_sql_token.specs.declared.token.Token.TheVariants as k
use Rattle.sj_sql_token.specs.Keywords.{keyword_of}
use Rattle.sj_sql_token.specs.Numbers.{exact_of, value_of}

-- a token, what is passed over, and what begins as one of these and is none
pub data PieceForm : Type 0 where
  token : Token → PieceForm
  passed : PieceForm
  broken : PieceForm

pub data IsSign : List ℕ → Token → Type 0 where
  open_parenthesis : IsSign (codes "(") k.Open
  close_parenthesis : IsSign (codes ")") k.Close
  comma : IsSign (codes ",") k.Comma
  semicolon : IsSign (codes ";") k.Semicolon
  colon : IsSign (codes ":") k.Colon
  star : IsSign (codes "*") k.Star
  plus : IsSign (codes "+") k.Plus
  minus : IsSign (codes "-") k.Minus

-- one digit or more
abbrev pub IsDigits : List ℕ → Type 0
IsDigits bs = (0 < length bs) × AllPass is_ascii_digit bs

-- Between two marks these bytes stand for the text: a mark in it is written twice.
pub data IsInside (mark : ℕ) : List ℕ → List ℕ → Type 0 where
  end : IsInside mark [] []
  plain : {b : ℕ} {bs text : List ℕ} → b ≢ mark → IsInside mark bs text → IsInside mark (b ∷ bs) (b ∷ text)
  twice : {bs text : List ℕ} → IsInside mark bs text → IsInside mark (mark ∷ mark ∷ bs) (mark ∷ text)

-- a number has to be exact
abbrev pub number_form : (ℤ × ℕ → Token) → Option (ℤ × ℕ) → PieceForm
number_form make None = broken
number_form make (Some d) = token (make d)

-- bytes that stand for characters have to be UTF-8
abbrev pub text_form : List ℕ → PieceForm → PieceForm
text_form bs form = if is_utf8 bs then form else broken

-- the bytes have this form
pub data HasForm : List ℕ → PieceForm → Type 0 where
  sign : {bs : List ℕ} {t : Token} → IsSign bs t → HasForm bs (token t)
  word : {b : ℕ} {bs : List ℕ} → is_letter b ≡ true → AllPass is_word_byte bs → HasForm (b ∷ bs) (token (k.Word (keyword_of (b ∷ bs)) (b ∷ bs)))
  whole : {digits : List ℕ} → IsDigits digits → HasForm digits (number_form k.Whole (exact_of (value_of digits [])))
  -- digits, a point and digits
  fraction : (digits behind : List ℕ) → IsDigits digits → IsDigits behind
      → HasForm (digits ++ 46 ∷ behind) (number_form k.Fraction (exact_of (value_of digits behind)))
  -- between two quotation marks
  string : {inside text : List ℕ} → IsInside 39 inside text → HasForm (39 ∷ inside ++ 39 ∷ []) (text_form inside (token (k.String text)))
  -- between two double quotation marks
  name : {inside text : List ℕ} → inside ≢ [] → IsInside 34 inside text → HasForm (34 ∷ inside ++ 34 ∷ []) (text_form inside (token (k.Quoted text)))
  empty_name : HasForm (34 ∷ 34 ∷ []) broken
  -- behind a mark, and not closed
  open_string : {inside text : List ℕ} → IsInside 39 inside text → HasForm (39 ∷ inside) broken
  open_name : {inside text : List ℕ} → IsInside 34 inside text → HasForm (34 ∷ inside) broken
  blank : {b : ℕ} → is_blank b ≡ true → HasForm (b ∷ []) passed
  -- two minus signs, and behind them no LF
  comment : {text : List ℕ} → All (λ b. b ≢ 10) text → HasForm (45 ∷ 45 ∷ text) (text_form text passed)

-- The first n of the bytes have this form, and no longer front of them has any.
pub record BeginsWith (bytes : List ℕ) (n : ℕ) (form : PieceForm) : Type 0 where
  pub front : List ℕ
  pub rest : List ℕ
  pub splits : bytes ≡ front ++ rest
  pub size : length front ≡ n
  pub fits : HasForm front form
  pub longest : (other after : List ℕ) (u : PieceForm) → bytes ≡ other ++ after → HasForm other u → length other ≤ n

-- no front of the bytes has a form
abbrev pub BeginsWithNone : List ℕ → Type 0
BeginsWithNone bytes = (front rest : List ℕ) (form : PieceForm) → bytes ≡ front ++ rest → HasForm front form → ⊥
