-- for `DocBuilder::exact`, `DocBuilder::number_at`, `DocBuilder::wide` and `value_of`, and for other lemmas and
-- crates above
pub mod Numerals
-- for `Children::advance`, `Doc::count`, `Doc::end_of`, `Doc::key_at`, `Doc::node_at`, `Doc::root`, `Doc::up_at`,
-- `NodeRef::children`, `NodeRef::kind`, `NodeRef::len`, `NodeRef::number`, `NodeRef::text` and `NodeRef::truth`, and
-- for other lemmas
pub mod Docs
-- for `Doc::root`
pub mod NumbersOfNodes
-- for `Doc::root`
pub mod Roots
-- for `CopiedLine::hold`, `DocBuilder::begin`, `DocBuilder::close`, `DocBuilder::depth`, `DocBuilder::finish`,
-- `DocBuilder::key_at`, `DocBuilder::key_bytes`, `DocBuilder::null`, `DocBuilder::number`, `DocBuilder::number_at`,
-- `DocBuilder::over`, `DocBuilder::over_line`, `DocBuilder::text_at`, `DocBuilder::text_bytes`, `DocBuilder::truth`,
-- `DocBuilder::wants` and `store`
pub mod Builders
-- for `Children::advance` and `NodeRef::children`, and for other lemmas
pub mod Listing
-- for `Children::next_under` and `find`
mod Searching
-- for `are_distinct`, `each_is_new` and `neighbours_differ`
pub mod Distinct
-- for the lemmas of `Touring`
pub mod Stops
-- for `Tour::advance`, and for other lemmas
pub mod ParentLinks
-- for `Doc::end_of`, `Doc::key_at`, `NodeRef::tour` and `Tour::advance`, and for other lemmas
pub mod Touring
