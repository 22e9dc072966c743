-- for `gather_line`: rows fit what is made of them
pub mod Fits
-- for `gather_each` and `read_and_gather`
pub mod ReadLines
-- for `gather_line`
pub mod KeptRows
