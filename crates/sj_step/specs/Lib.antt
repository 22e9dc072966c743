pub mod Trace
pub mod Takes
pub mod Answers
pub mod Reach
pub mod PairParts
pub mod Coding
pub mod Literals
