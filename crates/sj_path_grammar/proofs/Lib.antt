-- for the lemmas of `Laws`, `Paths` and `Soundness`: what was read at the front of a list of tokens
pub mod ReadTokens
-- for the lemmas of `Paths`
pub mod Soundness
-- for the lemmas of `Completeness`
pub mod Lengths
-- for the lemmas of `Completeness` and `Paths`
pub mod ConstructEdges
-- for the lemmas of `Paths`, and for crates above
pub mod Completeness
-- for the lemmas of `Acceptance` and `Laws`, and for crates above
pub mod Paths
-- for `one_answer` and `one_tree`, and for other lemmas and crates above
pub mod Laws
-- for `one_path`, and for crates above
pub mod Acceptance
