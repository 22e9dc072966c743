-- Short texts. But for `most_short`, private clauses alone cite the following.
use Rattle.std.specs.Prelude.{◌≡◌, ℕ, ◌+◌, ◌≤◌, List, [], ◌∷◌, ◌++◌, length, take}
use Rattle.std.specs.List.{flat_map}
use Rattle.sj_json.specs.Printing.{printed_byte, printed_string}

-- the most bytes of a short text
abbrev pub most_short : ℕ
most_short = 16

-- the most bytes of one between quotation marks
abbrev pub most_quoted : ℕ
most_quoted = 18

-- at the front of the window stands the string as it is printed
pub record IsQuoted (bytes window : List ℕ) : Type 0 where
  pub short : length bytes ≤ most_short
  pub front : take (length bytes + 2) window ≡ printed_string bytes

-- a text is printed as it stands at the front of the window, and a quotation mark stands behind it
pub record StandsQuoted (text window : List ℕ) : Type 0 where
  pub whole : length window ≡ most_short
  pub short : length text + 2 ≤ most_short
  pub plain : flat_map printed_byte text ≡ text
  pub front : take (length text + 1) window ≡ text ++ 34 ∷ []

-- the same of a key, with a colon behind the quotation mark
pub record StandsAsKey (key window : List ℕ) : Type 0 where
  pub whole : length window ≡ most_short
  pub short : length key + 4 ≤ most_short
  pub plain : flat_map printed_byte key ≡ key
  pub front : take (length key + 2) window ≡ key ++ 34 ∷ 58 ∷ []
