-- THE GENERATED LINES.
use Rattle.std.specs.Prelude.{ℕ, ◌+◌, ◌%◌, ◌==◌, zero, suc, List, [], ◌++◌, if◌then◌else◌, codes, decimal}

-- lines have six digits at most
abbrev pub most_lines : ℕ
most_lines = 999999

-- what stands behind the number of a line that is JSON
abbrev pub members : ℕ → List ℕ
members i = codes ",\"v\":[" ++ (decimal (i % 7) ++ (codes "," ++ (decimal (i % 3) ++ (codes "],\"s\":\"k" ++ (decimal (i % 5) ++ codes "\"}\n")))))

-- the line of this number: every tenth is cut off behind its number
abbrev pub line : ℕ → List ℕ
line i = codes "{\"n\":" ++ (decimal i ++ (if i % 10 == 0 then codes ",\n" else members i))

-- so many lines, the first of which has this number
abbrev pub lines_from : ℕ → ℕ → List ℕ
lines_from i zero = []
lines_from i (suc n) = line i ++ lines_from (i + 1) n

-- the lines from 1 to n
abbrev pub generated : ℕ → List ℕ
generated n = lines_from 1 n
