-- Tables of words: each row has a word, and what it stands for.
use Rattle.std.specs.Prelude.{ℕ, Bool, List, [], ◌∷◌, if◌then◌else◌}

-- what the first row that the word is like stands for, or `other` if it is like no row
abbrev pub first_like : {A : Type 0} → (List ℕ → List ℕ → Bool) → A → List (List ℕ × A) → List ℕ → A
first_like alike other [] word = other
first_like alike other (row ∷ rows) word = if alike word row.0 then row.1 else first_like alike other rows word
