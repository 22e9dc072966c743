pub mod Constructors
pub mod Growing
pub mod SoFar
pub mod Keys
pub mod Answers
