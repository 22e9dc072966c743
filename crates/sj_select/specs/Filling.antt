-- How the columns of a table are held. Private clauses alone cite this.
use Rattle.sj_value.specs.Clauses.{IsValueSpec}
use Rattle.sj_select_list.specs.Operations.{asked_path, path_with}
use Rattle.sj_select.specs.Columns.{Column, ordinality, regular, formatted, existence}
use Rattle.sj_select.specs.declared.columns.Column.{Column as ColumnHeld}
use Rattle.sj_select.specs.declared.columns.Column.TheVariants as held
use Rattle.sj_select.specs.declared.columns.ExistsColumn.{ExistsColumn}
use Rattle.sj_select.specs.declared.columns.FormattedColumn.{FormattedColumn}
use Rattle.sj_select.specs.declared.columns.RegularColumn.{RegularColumn}

abbrev pub regular_column : RegularColumn → Column
regular_column c = regular c.path (asked_path c.call.inquiry) c.call.clauses.now

abbrev pub formatted_column : FormattedColumn → Column
formatted_column c = formatted c.path (path_with c.call.cursor.value) c.call.clauses

abbrev pub exists_column : ExistsColumn → Column
exists_column c = existence c.path (asked_path c.call.inquiry) c.call.on_error

-- a column without where its cursor stands
abbrev pub column_of : ColumnHeld → Column
column_of (held.Ordinality n) = ordinality n
column_of (held.Regular c) = regular_column c
column_of (held.Formatted c) = formatted_column c
column_of (held.Exists c) = exists_column c

-- its clauses can be given
abbrev pub CanFill : Column → Type 0
CanFill (ordinality n) = Unit {0}
CanFill (regular n x clauses) = IsValueSpec clauses
CanFill (formatted n x clauses) = Unit {0}
CanFill (existence n x _) = Unit {0}
