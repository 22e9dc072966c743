-- for `any_key_text`, `pair_text`, `push_escaped` and `visit_text`, and for other lemmas and crates above
pub mod Appends
-- for `push_escaped`, and for crates above
pub mod PlainRuns
-- for the lemmas of `Printings`
pub mod Rendered
-- for `node_text`
pub mod Printings
-- for `pair_text`
pub mod PairTexts
-- for `has_decimals`, `is_decimal_text`, `number_text` and `whole_end`
pub mod Numerals
-- for `stops_in_16`, and for crates above
pub mod Lanes
-- for `put_ends` and `quote`, and for the lemmas of `StoredTexts`
pub mod Windows
-- for `key_text`, `stands_quoted` and `stored_string_text`
pub mod StoredTexts
