-- for `ascii_end`, `ascii_end_of_31`, `ascii_end_of_7`, `is_text_from` and `text_of`
pub mod Ascii
-- for `far_string_end`, `key_end`, `string_end` and `unescape`, and for other lemmas
pub mod Scanned
-- for `any_number`, `behind_scalar`, `colon_and_value`, `escaped_key`, `escaped_value`, `members`, `plain_number`,
-- `quoted_key`, `scalar`, `scalar_and_separator`, `separator`, `turn` and `value`, and for other lemmas
pub mod Steps
-- for `any_number` and `plain_number`
pub mod Numerals
-- for `digit`, `escaped_char`, `letter`, `pair_at`, `unit_at` and `unit_char`
pub mod Escapes
-- for `put_plain` and `unescape`
pub mod Unescaping
-- for `read_held` and `read_text`
pub mod Ends
-- for `high_in_32`, `high_in_4`, `high_in_8`, `others_in_16`, `stops_in_16`, `stops_in_32` and `stops_in_8`, and for other
-- lemmas
pub mod Lanes
-- for `long_plain_end`, `near_digits_end`, `near_end`, `plain_end_of_15`, `plain_end_of_31` and `short_plain_end`
pub mod Runs
-- for `read_text`
pub mod Feeds
-- for `is_one_digit` and `plain_number_end`
mod Unsigned
-- for `key_text_end` and `text_end`
mod Quoted
