pub mod Plans
pub mod Types
pub mod Values
pub mod Casts
pub mod Clauses
