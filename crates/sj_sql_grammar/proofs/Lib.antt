-- for the lemmas of `Completeness`, `Faults`, `FirstTokens`, `Laws`, `PartsTakeTokens`, `PathAnswers`,
-- `ReadingFinds`, `Soundness`, `SpellingsTakeTokens`, `TableCompleteness` and `Verdicts`, and for crates above
pub mod ReadTokens
-- for the lemmas of `Completeness`, `PartsTakeTokens` and `TableCompleteness`
pub mod SpellingsTakeTokens
-- for the lemmas of `Completeness` and `TableCompleteness`
pub mod PartsTakeTokens
-- for the lemmas of `Completeness` and `TableCompleteness`
pub mod FirstTokens
-- for the lemmas of `TableCompleteness`
pub mod Completeness
-- for the lemmas of `Laws`, `ReadingFinds` and `Verdicts`
pub mod TableCompleteness
-- for `one_reading` and `one_tree`, and for other lemmas
pub mod Laws
-- for the lemmas of `ReadingFinds`
pub mod Soundness
-- for the lemmas of `Laws` and `Verdicts`
pub mod ReadingFinds
-- for `path_answers`, and for other lemmas and crates above
pub mod PathAnswers
-- for the lemmas of `Faults`
pub mod Marks
-- for the lemmas of `Faults` and `Verdicts`
pub mod Firsts
-- for `noted_faults`, and for other lemmas
pub mod Faults
-- for `noted_answer`, `noted_reading` and `one_answer`, and for other lemmas and crates above
pub mod Verdicts
-- for `some_answer` and `some_file`, and for crates above
pub mod Answered
-- for `one_file`, and for crates above
pub mod Scripts
-- examples of the definitions, which no proof needs
mod Examples
