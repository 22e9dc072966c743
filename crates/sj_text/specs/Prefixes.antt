-- What is left where memory runs out in the middle of a text.
use Rattle.std.specs.Prelude.{◌≡◌, ℕ, List, ◌++◌}

-- the bytes `old` have grown by a first part of the text, which may be none of it or all
pub record AppendsPrefix (old text new : List ℕ) : Type 0 where
  pub part : List ℕ
  pub rest : List ℕ
  pub grown : new ≡ old ++ part
  pub splits : text ≡ part ++ rest
