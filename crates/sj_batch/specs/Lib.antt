pub mod Batch
pub mod Given
