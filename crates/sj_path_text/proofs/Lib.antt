-- for `subs_text`
pub mod Parts
-- for the lemmas of `Makings`, `Spellings`, `Texts` and `Utf8`: a tree that some text has
pub mod Made
-- for the lemmas of `Methods`, `Numbers`, `Strings`, `Texts` and `Utf8`
pub mod Lexing
-- for the lemmas of `Texts` and `Utf8`
pub mod Strings
pub mod Numbers
-- for the lemmas of `Counts`, `Depths`, `Makings`, `Spellings`, `Support`, `Texts` and `Utf8`
pub mod Methods
-- for the lemmas of `Laws` and `Utf8`
pub mod Makings
-- for the lemmas of `Laws`
pub mod Spellings
pub mod Texts
pub mod Counts
pub mod Depths
pub mod Support
-- for `read_back`
pub mod Utf8
-- for `read_back` and `same_text_same_tree`
pub mod Laws
