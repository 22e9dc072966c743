-- The tokens that a file has, and the pieces that are read back from their text inside a statement.
use Rattle.std.proofs.Common.{◌≡◌, ◌≢◌, ℕ, true, List, [], ◌∷◌}
use Rattle.std.specs.Bool.{⊤}
use Rattle.std.specs.Prelude.{IsUtf8}
use Rattle.sj_decimal.specs.Normal.{IsDecimal}
use Rattle.sj_sql_token.specs.declared.token.Token.{Token}
use Rattle.sj_sql_token.specs.declared.token.Token.TheVariants as k
use Rattle.sj_sql_grammar.specs.Phrases.{Tokens}
use Rattle.sj_sql_text.specs.Pieces.{Piece, Open, Close, Call, Semicolon, Pieces}
use Rattle.sj_sql_text.specs.Printable.{is_word, IsPrintable}

-- what a file may have as a token: a name is not empty, characters are in UTF-8, and a number is exact and in normal form
abbrev pub IsLexical : Token → Type 0
IsLexical (k.Word v text) = is_word text ≡ true
IsLexical (k.Quoted n) = (n ≢ []) × IsUtf8 n
IsLexical (k.String s) = IsUtf8 s
IsLexical (k.Whole d) = IsDecimal d
IsLexical (k.Fraction d) = IsDecimal d
IsLexical _ = ⊤

abbrev pub AreLexical : Tokens → Type 0
AreLexical [] = ⊤
AreLexical (t ∷ ts) = IsLexical t × AreLexical ts

-- a piece that is printable and ends no statement
abbrev pub IsInner : Piece → Type 0
IsInner Semicolon = ⊥
IsInner p = IsPrintable p

abbrev pub AreInner : Pieces → Type 0
AreInner [] = ⊤
AreInner (p ∷ ps) = IsInner p × AreInner ps

-- before inner pieces, f puts inner pieces
pub record Prints (f : Pieces → Pieces) : Type 0 where
  pub inner : (ps : Pieces) → AreInner ps → AreInner (f ps)

pub and_prints : {f h : Pieces → Pieces} → Prints f → Prints h → Prints (λ ps. f (h ps))
and_prints {h = h} x y = record { inner = λ ps p. x.inner (h ps) (y.inner ps p) }

pub enclosed_prints : {f : Pieces → Pieces} → Prints f → Prints (λ ps. Open ∷ f (Close ∷ ps))
enclosed_prints x = record { inner = λ ps p. (tt, x.inner (Close ∷ ps) (tt, p)) }

pub called_prints : {f : Pieces → Pieces} (name : List ℕ) → is_word name ≡ true → Prints f → Prints (λ ps. Call name ∷ f (Close ∷ ps))
called_prints name w x = record { inner = λ ps p. (w, x.inner (Close ∷ ps) (tt, p)) }
