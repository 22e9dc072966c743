pub mod Bound
pub mod Limits
pub mod Sound
pub mod View
