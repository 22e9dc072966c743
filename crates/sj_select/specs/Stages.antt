-- How far rows have come, and what is left then. Private clauses alone cite this.
use Rattle.std.specs.Prelude.{◌≡◌, ℕ, List, ◌++◌, take, codes}
use Rattle.sj_table.specs.Series.{done, raises}
use Rattle.sj_select.specs.Rows.{StatementRows}
use Rattle.sj_select.specs.declared.rows.Stage.{Stage}
use Rattle.sj_select.specs.declared.rows.Stage.TheVariants as stage
use Rattle.sj_select.specs.declared.rows.Turn.{Turn}
use Rattle.sj_select.specs.declared.rows.Turn.TheVariants as turn
use Rattle.sj_select.specs.declared.source.Found.{Found}
use Rattle.sj_select.specs.declared.source.Found.TheVariants as found

-- the rows that are left, where these are left of what they are made of
abbrev pub left_at : Stage → StatementRows → StatementRows
left_at stage.Going left = left
left_at stage.Ended left = done
left_at (stage.Raised s) left = raises s

-- the steps that may still be taken
abbrev pub due_at : Stage → ℕ → ℕ
due_at stage.Going due = due
due_at stage.Ended due = 0
due_at (stage.Raised s) due = 0

-- ---- behind what was found

abbrev pub turn_for : Found → Turn
turn_for found.Row = turn.Row
turn_for found.LastRow = turn.Row
turn_for found.End = turn.End
turn_for (found.Raised s) = turn.Raised s

abbrev pub stage_behind : Found → Stage
stage_behind found.Row = stage.Going
stage_behind found.LastRow = stage.Ended
stage_behind found.End = stage.Ended
stage_behind (found.Raised s) = stage.Raised s

-- the text of a row has its end, and where there is none nothing is left behind the place
abbrev pub EndsText : Found → ℕ → List ℕ → List ℕ → Type 0
EndsText found.Row start old new = new ≡ old ++ codes "\n"
EndsText found.LastRow start old new = new ≡ old ++ codes "\n"
EndsText found.End start old new = new ≡ take start old
EndsText (found.Raised s) start old new = new ≡ take start old
