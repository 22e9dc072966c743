-- for other lemmas, and crates above
pub mod Steps
-- for the turns, and crates above
pub mod Streaming
-- for `take_turns`, and crates above
pub mod Loans
-- for `take_piece` and `finish` of `LinesOf`
mod Feeding
-- for crates above
pub mod Then
-- for crates above
pub mod Pages
