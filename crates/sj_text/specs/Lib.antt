pub mod Numerals
pub mod Prefixes
pub mod Rendering
pub mod Windows
