-- for other lemmas
pub mod FirstSight
-- for `Group::add`, `Group::first` and `Gathered::add`
pub mod Growth
-- for `add_row`
pub mod Entries
-- for `Groups::group_text`
pub mod Texts
