pub mod Functions
pub mod Fields
pub mod Gathering
pub mod Json
