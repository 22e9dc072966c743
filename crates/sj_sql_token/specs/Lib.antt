pub mod Keywords
pub mod Quotes
pub mod Numbers
pub mod Tokens
pub mod Forms
pub mod Next
pub mod Same
