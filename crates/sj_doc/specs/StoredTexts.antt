-- The windows of texts.
use Rattle.std.specs.Prelude.{◌≡◌, ℕ, ◌≤◌, List, length, take}

-- the bytes of a window
abbrev pub window : ℕ
window = 16

-- a window begins with the text
pub record IsWindow (text bytes : List ℕ) : Type 0 where
  pub whole : length bytes ≡ window
  pub short : length text ≤ window
  pub front : take (length text) bytes ≡ text
