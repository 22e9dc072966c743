-- for `load_by`
pub mod Loading
-- for `count_of`, `next_bound` and `statements_of`, for other lemmas, and for sj_run
pub mod Verdicts
-- for `number_of`
mod Digits
-- for the lemmas of `Unaccepted`, and for sj_run
pub mod ShownFiles
-- for sj_run
pub mod Unaccepted
-- for `next_with_text` and `text_of`, and for sj_run
pub mod Texts
-- for `canonical_file`, and for sj_run
pub mod ShownAgain
-- for `accept_to_group`, and for sj_run
pub mod Grouped
