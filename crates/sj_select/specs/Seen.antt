-- What the rows of a statement are seen as while they are given.
use Rattle.std.specs.Prelude.{◌≡◌, ℕ, List, [], refl}
use Rattle.std.specs.Coded.{Coded, code_by, coded×, coded_ℕ}
use Rattle.sj_rows.specs.RowText.{row_bytes}
use Rattle.sj_table.specs.Series.{done, raises, more, rest}
use Rattle.sj_value.specs.declared.value.SqlValue.{SqlValue}
use Rattle.sj_bound.specs.declared.bound.Bound.{Bound}
use Rattle.sj_bound.specs.contracts.bound.Bound as bound
use Rattle.sj_select_list.specs.Line.{Line}
use Rattle.sj_select.specs.Coding.{line_code, rows_code}
use Rattle.sj_select.specs.Rows.{StatementRows}
use Rattle.sj_select.specs.declared.rows.Turn.{Turn}
use Rattle.sj_select.specs.declared.rows.Turn.TheVariants as turn

-- the statement, the line, the rows that are left, and the steps that may still be taken
pub record Seen : Type 0 where
  pub bound : Bound
  pub line : Line
  pub left : StatementRows
  pub due : ℕ

-- how the logic stores it
abbrev pub seen_code : Coded Seen
seen_code =
    code_by (Bound × (Line × (StatementRows × ℕ))) (coded× bound.the_row.coded (coded× line_code (coded× rows_code coded_ℕ)))
    (λ s. (s.bound, (s.line, (s.left, s.due)))) (λ p. record { bound = p.0; line = p.1.0; left = p.1.1.0; due = p.1.1.1 }) (λ _. refl)

-- what is answered: there is a row, or the end
abbrev pub turn_of : StatementRows → Turn
turn_of done = turn.End
turn_of (raises s) = turn.Raised s
turn_of (more row rows) = turn.Row

-- what may still be taken behind an answer: nothing behind an end
abbrev pub due_behind : Turn → ℕ → ℕ
due_behind turn.Row due = due
due_behind turn.End due = 0
due_behind (turn.Raised s) due = 0

-- the text of the row that comes next, with these numbers of a line and of a statement; none where no row is left
abbrev pub next_text : ℕ → ℕ → StatementRows → List ℕ
next_text line statement done = []
next_text line statement (raises s) = []
next_text line statement (more row rows) = row_bytes line statement row

-- the values of the row that comes next, of which `next_text` is the text; none where no row is left
abbrev pub next_values : StatementRows → List SqlValue
next_values done = []
next_values (raises s) = []
next_values (more row rows) = row

-- The first row that is left was given, or the end, which stays. Behind an end nothing is due.
pub record Gives (old new : Seen) (answer : Turn) : Type 0 where
  pub answers : answer ≡ turn_of old.left
  pub leaves : new.left ≡ rest old.left
  pub ends : new.due ≡ due_behind answer new.due
