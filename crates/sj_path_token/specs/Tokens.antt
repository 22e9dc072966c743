-- The tokens of a text, taken from left to right, each the longest that fits.
use Rattle.std.specs.Prelude.{◌≡◌, ℕ, ◌≤◌, true, List, [], ◌∷◌, ◌++◌, length, Option, Some, codes}
use Rattle.sj_base.specs.ByteClasses.{is_blank}
use Rattle.sj_decimal.specs.declared.comparing.Compare.TheVariants as c
use Rattle.sj_path_token.specs.declared.token.Token.{Token}
use Rattle.sj_path_token.specs.declared.token.Token.TheVariants as k
use Rattle.sj_path_token.specs.Words.{IsWord, keyword_of}
use Rattle.sj_path_token.specs.Strings.{IsInside}
use Rattle.sj_path_token.specs.Numbers.{IsNumeral}

pub data IsSign : List ℕ → Token → Type 0 where
  dot : IsSign (codes ".") k.Dot
  star : IsSign (codes "*") k.Star
  open_bracket : IsSign (codes "[") k.OpenBracket
  close_bracket : IsSign (codes "]") k.CloseBracket
  open_parenthesis : IsSign (codes "(") k.Open
  close_parenthesis : IsSign (codes ")") k.Close
  comma : IsSign (codes ",") k.Comma
  question : IsSign (codes "?") k.Question
  plus : IsSign (codes "+") k.Plus
  minus : IsSign (codes "-") k.Minus
  slash : IsSign (codes "/") k.Slash
  percent : IsSign (codes "%") k.Percent
  equal : IsSign (codes "==") (k.Compare c.Eq)
  not_equal : IsSign (codes "!=") (k.Compare c.Ne)
  -- the same comparison
  less_or_greater : IsSign (codes "<>") (k.Compare c.Ne)
  less : IsSign (codes "<") (k.Compare c.Lt)
  less_equal : IsSign (codes "<=") (k.Compare c.Le)
  greater : IsSign (codes ">") (k.Compare c.Gt)
  greater_equal : IsSign (codes ">=") (k.Compare c.Ge)
  and : IsSign (codes "&&") k.And
  or : IsSign (codes "||") k.Or
  not : IsSign (codes "!") k.Not
  at : IsSign (codes "@") k.At

-- The bytes have the form of a token. `None` stands for a number that is not exact.
pub data IsForm : List ℕ → Option Token → Type 0 where
  sign : {bs : List ℕ} {t : Token} → IsSign bs t → IsForm bs (Some t)
  root : IsForm (codes "$") (Some k.Root)
  -- $ and a word, with nothing between
  variable : {name : List ℕ} → IsWord name → IsForm (36 ∷ name) (Some (k.Variable name))
  word : {text : List ℕ} → IsWord text → IsForm text (Some (k.Word (keyword_of text) text))
  string : {inside text : List ℕ} → IsInside inside text → IsForm (34 ∷ inside) (Some (k.Quoted text))
  number : {digits : List ℕ} {t : Option Token} → IsNumeral digits t → IsForm digits t

-- The text begins with this token, which rest follows: no longer part at its front has the form of a token.
pub record BeginsWith (text : List ℕ) (t : Option Token) (rest : List ℕ) : Type 0 where
  pub front : List ℕ
  pub fits : IsForm front t
  pub splits : text ≡ front ++ rest
  pub longest : (other after : List ℕ) (u : Option Token) → text ≡ other ++ after → IsForm other u → length other ≤ length front

-- The tokens of a text. Blanks between tokens are skipped. A text that begins with no token, or with a number that is
-- not exact, has none.
pub data HasTokens : List ℕ → List Token → Type 0 where
  end : HasTokens [] []
  blank : {b : ℕ} {text : List ℕ} {ts : List Token} → is_blank b ≡ true → HasTokens text ts → HasTokens (b ∷ text) ts
  token : {t : Token} {text rest : List ℕ} {ts : List Token} → BeginsWith text (Some t) rest → HasTokens rest ts → HasTokens text (t ∷ ts)
