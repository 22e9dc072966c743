-- for `rounded_number`, and for crates above
pub mod Rounded
-- for `has_at_most`
pub mod Counts
-- for `any_text`, `cast` and `limited_text`
pub mod Cells
