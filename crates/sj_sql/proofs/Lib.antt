-- for `gather` and `next_statement`, and for other lemmas and crates above
pub mod Files
-- for `parse_file`
pub mod Scripts
-- for `path_of_text`
pub mod Texts
