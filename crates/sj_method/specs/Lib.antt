pub mod Numbers
pub mod Methods
pub mod Pairs
