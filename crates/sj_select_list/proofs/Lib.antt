-- for `ArrayCall::take`, `ObjectCall::take`, `aggregates_of` and `take_all`, and for crates above
pub mod Aggregating
-- for `push_value`
mod Appending
-- for `find`, `find_list` and `Finder::find`
mod FoundValues
-- for `finish_all` and `take_all`, and for crates above
pub mod GatheredOutcomes
-- for the lemmas of `FoundValues`
mod Performed
-- for `is_json_outcome`
mod Predicates
-- for `ExistsCall::outcome`
mod Printed
-- for crates above
pub mod SoundOperations
-- for `print_each`, `print_list` and `print_found`, and for crates above
pub mod PrintedFields
