pub mod Forward
pub mod Walk
