-- The pieces in which bytes are read.
use Rattle.std.specs.Prelude.{ℕ}

-- how many bytes are read at once, of the input or of the statement file. How many bytes of rows are kept is another limit
abbrev pub max_piece : ℕ
max_piece = 65536
