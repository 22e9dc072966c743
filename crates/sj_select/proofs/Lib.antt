-- for `TableRows::new`
mod PlacedRows
mod SoundColumns
-- for `columns_of`
mod MadeColumns
-- for `print_columns`
mod PrintedColumns
-- for `each_finds_its_column` and `print_row`
mod EachColumn
-- for `print_row` and `print_listed`
mod Listing
-- for `RowSource::print`
mod Sourced
-- for `take_row`, and for other lemmas
mod CountedSteps
-- for `take_row` and `take_rows`
mod TakingRows
-- for `RowsOf::print_behind` and `RowsOf::next`
mod AnsweredRows
