-- for `dollar` and `word`, and for other lemmas
pub mod Runs
-- for other lemmas: what was read at the front of a text meets a fact
pub mod Cuts
-- for `token`, and for the lemmas of `Boundaries` and `TokenForms`
pub mod StringInsides
-- for `number`, and for the lemmas of `TokenForms`
pub mod Numerals
-- for the lemmas of `Boundaries` and `Texts`
pub mod TokenForms
-- for the lemmas of `Boundaries` and `TokenTurns`, and for crates above
pub mod Texts
-- for `dollar`, `string`, `token`, `tokens_of` and `word`
pub mod Boundaries
-- for `string`
pub mod StringTurns
-- for `tokens_of`
pub mod TokenTurns
