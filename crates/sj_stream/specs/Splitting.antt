-- A splitter between two pieces.
use Rattle.std.specs.Prelude.{List, [], ℕ, length, false}
use Rattle.sj_rows.specs.Lines.{whole_lines, open_part, seen}
use Rattle.sj_rows.specs.HeldLines.{HeldLines}

-- what it holds when it was fed these bytes and has given all their whole lines: what stands behind the last LF
abbrev pub kept_of : List ℕ → HeldLines
kept_of bytes = record { waiting = []; rest = seen (open_part bytes); given = length (whole_lines bytes); fed = length bytes; ended = false }
