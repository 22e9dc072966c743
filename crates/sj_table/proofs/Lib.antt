-- for `PathCell::advance`, `PathCell::next` and `fault_at_end`
pub mod Entries
-- for `TableCursor::new` and `TableCursor::rewind`
pub mod Whole
-- for `at`
pub mod Lookups
-- for `plan_cell`
pub mod Placed
-- for `path_cell`
pub mod Sources
-- facts about the definitions, which no proof needs
pub mod SeriesLaws
-- for `next`
mod Turns
