-- for the lemmas of `Buildings`, `Distinct` and `Links`, and for crates above
pub mod Places
-- for sj_doc and sj_read
pub mod Buildings
-- for sj_doc
pub mod Links
-- for the lemmas of `Complete` and `Sound`, and for crates above
pub mod Numbers
-- for the lemmas of `Sound`
pub mod Escapes
-- for `one_tree`, and for other lemmas and crates above
pub mod Complete
-- for the lemmas of `Documents`, and for crates above
pub mod Sound
-- for `printed_text`
pub mod Printed
-- for `one_document`, and for crates above
pub mod Documents
-- for `unique_keys`, and for crates above
pub mod Distinct
