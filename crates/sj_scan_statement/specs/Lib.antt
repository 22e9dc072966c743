pub mod Statement
pub mod Answers
