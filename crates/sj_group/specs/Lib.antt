pub mod Grouping
pub mod Held
