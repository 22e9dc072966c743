-- for `number_of` and `undoubled`, and for other lemmas
pub mod Quotes
-- for `utf8`, and for other lemmas
pub mod Texts
-- for `number_of` and `number`
pub mod Numbers
-- for `name`, `next_token`, `string` and `word`
pub mod Pieces
-- for sj_sql_phrase and sj_sql_grammar
pub mod Keywords
-- for the lemmas of `Longest`
pub mod Sizes
-- for `longest_pieces`
pub mod Longest
