-- Numbers of RFC 8259 without a minus sign.
use Rattle.std.specs.Prelude.{◌≢◌, ℕ, List, [], ◌∷◌, Option, Some, None, ℤ}
use Rattle.sj_decimal.specs.Number.{SpellsExact, SpellsWide}
use Rattle.sj_path_token.specs.declared.token.Token.{Token}
use Rattle.sj_path_token.specs.declared.token.Token.TheVariants as k

-- the bytes do not begin with a minus sign
abbrev pub NoMinus : List ℕ → Type 0
NoMinus [] = Unit {0}
NoMinus (b ∷ bs) = b ≢ 45

-- The bytes are a number without a minus sign, and this is its token. `None` stands for a number that is not exact.
pub data IsNumeral : List ℕ → Option Token → Type 0 where
  exact : {digits : List ℕ} {d : ℤ × ℕ} → NoMinus digits → SpellsExact digits d → IsNumeral digits (Some (k.Number d))
  inexact : {digits : List ℕ} → NoMinus digits → SpellsWide digits → IsNumeral digits None
