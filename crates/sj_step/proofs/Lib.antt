-- facts about the definitions, which no proof needs
pub mod Spreads
-- for the lemmas of `Keyed` and `Spreads`, and for crates above
pub mod Traces
-- examples of the definitions, which no proof needs
mod Examples
-- for crates above
pub mod Ranges
-- for `whole_number`
pub mod Wholes
-- for the lemmas of `Ranges`, and for crates above
pub mod Runs
-- for `last_index`, for other lemmas, and for crates above
pub mod Lasts
-- for crates above
pub mod Keyed
