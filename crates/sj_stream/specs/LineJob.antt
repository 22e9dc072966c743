-- What is printed for the lines of an input, whatever that is.
use Rattle.std.specs.Prelude.{ℕ, ◌+◌, List, [], ◌∷◌, ◌++◌, length, map, Option}
use Rattle.sj_rows.specs.Lines.{whole_from, whole_lines, open_part, last_line, lines, seen}
use Rattle.sj_page.specs.Pages.{Print, nothing, followed_by}

-- A LINE JOB: what the line of this number prints, as it is seen, and how many steps that may take; and the text that comes behind all these lines.
pub record LineJob : Type 0 where
  pub prints : ℕ → Option (List ℕ) → Print
  pub costs : ℕ → Option (List ℕ) → ℕ
  pub behind : List (Option (List ℕ)) → List ℕ

-- ---- lines, the first of which has this number

abbrev pub lines_print : LineJob → ℕ → List (Option (List ℕ)) → Print
lines_print job number [] = nothing
lines_print job number (line ∷ others) = followed_by (job.prints number line) (lines_print job (number + 1) others)

abbrev pub lines_cost : LineJob → ℕ → List (Option (List ℕ)) → ℕ
lines_cost job number [] = 0
lines_cost job number (line ∷ others) = job.costs number line + lines_cost job (number + 1) others

-- ---- an input

-- ALL THAT IS PRINTED for an input: what is printed for each of its lines, in their order
abbrev pub all_print : LineJob → List ℕ → Print
all_print job bytes = lines_print job 1 (map seen (lines bytes))

-- for the lines that end in LF
abbrev pub whole_print : LineJob → List ℕ → Print
whole_print job bytes = lines_print job 1 (map seen (whole_lines bytes))

-- THE OUTPUT of the lines: its text
abbrev pub output : LineJob → List ℕ → List ℕ
output job bytes = (all_print job bytes).text

-- that of the lines that end in LF
abbrev pub whole_output : LineJob → List ℕ → List ℕ
whole_output job bytes = (whole_print job bytes).text

-- the text behind all lines
abbrev pub text_behind : LineJob → List ℕ → List ℕ
text_behind job bytes = job.behind (map seen (lines bytes))

-- ALL THAT IS WRITTEN: the output of the lines, and then the text behind them
abbrev pub whole_text : LineJob → List ℕ → List ℕ
whole_text job bytes = output job bytes ++ text_behind job bytes

-- THE ALLOWANCE: the sum of the steps over all lines
abbrev pub allowed : LineJob → List ℕ → ℕ
allowed job bytes = lines_cost job 1 (map seen (lines bytes))

-- that of the lines that end in LF
abbrev pub whole_allowed : LineJob → List ℕ → ℕ
whole_allowed job bytes = lines_cost job 1 (map seen (whole_lines bytes))

-- ---- an input in pieces

-- what is printed with a piece that comes behind these bytes: for the lines that end in it
unfoldable pub piece_print : LineJob → List ℕ → List ℕ → Print
piece_print job bytes piece = lines_print job (length (whole_lines bytes) + 1) (map seen (whole_from (open_part bytes) piece))

-- and how many steps may be taken
unfoldable pub piece_cost : LineJob → List ℕ → List ℕ → ℕ
piece_cost job bytes piece = lines_cost job (length (whole_lines bytes) + 1) (map seen (whole_from (open_part bytes) piece))

-- what is printed at the end of these bytes: for what stands behind their last LF, where anything does
unfoldable pub last_print : LineJob → List ℕ → Print
last_print job bytes = lines_print job (length (whole_lines bytes) + 1) (map seen (last_line (open_part bytes)))

unfoldable pub last_cost : LineJob → List ℕ → ℕ
last_cost job bytes = lines_cost job (length (whole_lines bytes) + 1) (map seen (last_line (open_part bytes)))
