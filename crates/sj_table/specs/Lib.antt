pub mod Series
pub mod Coding
pub mod Rows
pub mod Takes
pub mod Cells
pub mod View
