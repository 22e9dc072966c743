pub mod Parentheses
pub mod Text
pub mod Tokens
