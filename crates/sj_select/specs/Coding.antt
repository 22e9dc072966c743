-- How the logic stores what the rows of a statement are seen as.
use Rattle.std.specs.Prelude.{◌≡◌, List, Bool, true, false, cond, Option, Some, None, refl}
use Rattle.std.specs.Coded.{Coded, code_by, coded×, coded_list, coded_option, coded_bool}
use Rattle.sj_json.specs.Tree.{Tree}
use Rattle.sj_json.specs.Coding.{tree_code}
use Rattle.sj_value.specs.declared.value.SqlValue.{SqlValue}
use Rattle.sj_value.specs.contracts.value.SqlValue as value
use Rattle.sj_table.specs.Coding.{series_code}
use Rattle.sj_select_list.specs.Line.{Line, not_json, repeated, json}
use Rattle.sj_select.specs.Rows.{StatementRows}

-- no tree, or one and whether keys are repeated
abbrev pub StoredLine : Type 0
StoredLine = Option (Bool × Tree)

abbrev pub line_to : Line → StoredLine
line_to not_json = None
line_to (repeated t) = Some (true, t)
line_to (json t) = Some (false, t)

abbrev pub line_from : StoredLine → Line
line_from None = not_json
line_from (Some s) = cond s.0 (repeated s.1) (json s.1)

pub line_from-line_to : (line : Line) → line_from (line_to line) ≡ line
line_from-line_to not_json = refl
line_from-line_to (repeated t) = refl
line_from-line_to (json t) = refl

abbrev pub line_code : Coded Line
line_code = code_by StoredLine (coded_option (coded× coded_bool tree_code)) line_to line_from line_from-line_to

abbrev pub row_code : Coded (List SqlValue)
row_code = coded_list value.the_row.coded

abbrev pub rows_code : Coded StatementRows
rows_code = series_code row_code
