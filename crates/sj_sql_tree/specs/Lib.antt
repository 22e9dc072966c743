pub mod View
pub mod Sequences
