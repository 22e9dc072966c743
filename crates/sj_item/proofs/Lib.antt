-- for `order_of_texts` and `text_begins_with`
pub mod CodePoints
-- for `Item::compare` and `order_of_parts`
pub mod Coefficients
-- for `Item::compare`, `compare_exact`, `compare_any` and `Item::starts_with`
pub mod Comparisons
-- for `whole`, and for crates above
pub mod Rounded
-- for `numeral_whole`
pub mod Wholes
