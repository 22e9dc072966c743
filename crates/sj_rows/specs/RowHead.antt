-- The head of a row that is kept for the next one.
use Rattle.std.specs.Prelude.{◌≡◌, ℕ, ◌+◌, ◌%◌, ◌^◌, ◌<◌, List, [], ◌∷◌, ◌++◌, length, drop, replicate, decimal}
use Rattle.sj_rows.specs.RowText.{row_head}
use Rattle.sj_rows.specs.declared.row.HeadText.{HeadText}

-- whose head is kept
pub record HeadOf : Type 0 where
  pub line : ℕ
  pub statement : ℕ

abbrev pub head_of : ℕ → ℕ → HeadOf
head_of line statement = record { line = line; statement = statement }

-- the next line's number differs in its last digit alone, and has 64 bits
abbrev pub HasNext : HeadOf → Type 0
HasNext h = (h.line % 10 < 9) × (h.line + 1 < 2 ^ 64)

-- line, TAB, statement, TAB and the letter
abbrev pub lettered : ℕ → ℕ → ℕ → List ℕ
lettered line statement letter = row_head line statement ++ 9 ∷ letter ∷ []

-- The text is the head of this line and statement, with TABs behind it.
pub record IsHead (text : HeadText) (line statement letter : ℕ) : Type 0 where
  pub written : drop text.first text.bytes ≡ lettered line statement letter ++ replicate 33 9
  pub ends : text.first + length (lettered line statement letter) ≡ 33
  -- the last digit of the line's number stands there
  pub last : text.last + 1 ≡ text.first + length (decimal line)
