-- for `Recognizer::piece` and `Recognizer::advance`
pub mod Steps
-- for `Recognizer::skim`
pub mod Skims
-- for `run_len`
pub mod Lanes
pub mod Masks
-- for the lemmas of `Follows`
pub mod Numerals
pub mod Units
-- for the lemmas of `Wholes`
pub mod Texts
pub mod Follows
-- for `Recognizer::finish`, and for the lemmas of `Begins`
pub mod Wholes
-- for the lemmas of `Begins`
pub mod Endings
pub mod Lives
pub mod Counts
-- for `Recognizer::begins` and `Recognizer::held`
pub mod Begins
