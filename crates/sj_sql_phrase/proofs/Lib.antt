-- for `variables`, and for crates above
pub mod Lists
-- for `Level::cross` and `Level::union`
pub mod Plans
