-- for `Bound`
pub mod ViewLists
-- for what makes or reads a value with a list in it, in crates above
pub mod Rows
