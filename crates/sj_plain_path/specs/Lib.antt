pub mod Truths
pub mod Openings
pub mod Pairings
pub mod Looks
pub mod Takers
pub mod Chains
