-- for `Decimal::cmp`, `Decimal::order` and `compare_magnitudes`
pub mod Comparisons
-- for `Significand::followed_by` and `capped_value`, and for other lemmas and crates above
pub mod Digits
-- for `Decimal::div`, `Decimal::rem`, `Significand::of`, `next_digit`, `quotient_digits` and `quotient`
pub mod Divisions
-- for sj_json, sj_sql_token and sj_path_token
pub mod Exactness
-- for `Decimal::text`, and for crates above
pub mod Laws
-- for `Decimal::from_parts`, `Decimal::from_short`, `Decimal::normalized`, `Decimal::round_to` and `Decimal::whole`,
-- and for other lemmas and crates above
pub mod NormalForm
-- for sj_json
pub mod NumberBytes
-- for `Decimal::parse_short`, and for crates above
pub mod OnePass
-- for `Decimal::add`, `Decimal::limited`, `Decimal::mul`, `Decimal::rem` and `Decimal::sub`, and for other lemmas
pub mod Operations
-- for `Decimal::ceiling`, `Decimal::floor`, `Decimal::rem`, `power_of_ten`, `scaled` and others, and for other lemmas
-- and crates above
pub mod Powers
-- for `Decimal::parse`, and for other lemmas and crates above
pub mod Readings
-- for `reduce_long` and `reduce_short`, and for other lemmas and crates above
pub mod Reduced
-- for `Decimal::ceiling`, `Decimal::floor`, `Decimal::round_to`, `rounded_magnitude` and `whole_magnitude`
pub mod Roundings
-- for `Parsed::shifted` and `Spelling::value`, and for other lemmas
pub mod Shifts
-- for `Significand::followed_by`, `Spelling::value` and `quotient_digits`, and for other lemmas
pub mod Significands
-- for `push_decimals` and `written`, and for other lemmas
pub mod Texts
