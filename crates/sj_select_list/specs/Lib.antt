pub mod Line
pub mod Values
pub mod Aggregates
pub mod Operations
pub mod Performing
pub mod Gathers
pub mod Printing
pub mod Taking
