pub mod Kept
pub mod GroupJob
pub mod Gathering
