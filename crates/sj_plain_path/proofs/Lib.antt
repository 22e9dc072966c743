-- for the lemmas of `Chains`, and for `is_array` of the crate above
pub mod NotUnwrapped
-- for `look_below` and `see_below`, and for the lemmas of `Chains`
mod Takers
-- for the lemmas of `Chains`, and for trails in the crate above
pub mod UnderKeys
-- for `collect`, `seek` and for other functions of plain paths, and for items that are no nodes in the crate above
pub mod Chains
