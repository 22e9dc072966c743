-- The limits of a document.
use Rattle.std.specs.Prelude.{ℕ, ◌^◌}

-- the most nodes that a document has
abbrev pub most_nodes : ℕ
most_nodes = 2 ^ 25

-- the line, and all strings, keys and numbers that do not stand in it, have fewer bytes together
abbrev pub text_bound : ℕ
text_bound = 2 ^ 32
