pub mod Noted
pub mod File
pub mod Script
pub mod Nests
pub mod Words
pub mod Sources
