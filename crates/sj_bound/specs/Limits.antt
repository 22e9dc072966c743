-- How much a statement may have.
use Rattle.std.specs.Prelude.{ℕ}

-- the most items of a SELECT list
abbrev pub most_items : ℕ
most_items = 1000

-- the most columns of a table, at any depth
abbrev pub most_columns : ℕ
most_columns = 1000

-- the most paths of a table, with the row path
abbrev pub most_paths : ℕ
most_paths = 64
