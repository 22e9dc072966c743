pub mod Found
pub mod Nests
