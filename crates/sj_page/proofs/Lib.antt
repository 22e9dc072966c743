-- for `write_all` and `write_parts`, and for other lemmas and crates above
pub mod Writing
-- for sj_run
pub mod Printing
