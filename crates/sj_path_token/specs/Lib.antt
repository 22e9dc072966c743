pub mod Words
pub mod Strings
pub mod Numbers
pub mod Tokens
pub mod Reading
