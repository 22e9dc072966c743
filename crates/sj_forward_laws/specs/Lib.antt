pub mod Reached
pub mod Apart
