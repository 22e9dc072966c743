-- for `insert_copy` and `insert_lent`
pub mod Inserted
-- for `ArrayAgg::add` and `ObjectAgg::add`, and for other lemmas
pub mod Growing
-- for `ObjectAgg::add` and `json_object`, and for other lemmas
pub mod Taken
-- for `json_object`
pub mod Members
