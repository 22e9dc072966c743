-- for `split_behind_mark`
mod Marks
-- for `value` and `column`
mod Constructed
-- for `returning` and `with_wrapper`
mod Growth
-- for `print`
mod Printing
-- for the lemmas of `PhraseTokens`, `PlanTokens`, `ValueTokens`, `TableTokens` and `SelectTokens`
pub mod WordTokens
-- for the lemmas of `PhraseTokens`, `PlanTokens`, `ValueTokens`, `TableTokens` and `RoomPlans`
pub mod ReadPhrases
-- for the lemmas of `ValueTokens`, `TableTokens` and `SelectTokens`
pub mod PhraseTokens
-- for the lemmas of `TableTokens`
pub mod PlanTokens
-- for the lemmas of `SelectTokens` and `RoomValues`
pub mod ValueTokens
-- for the lemmas of `SelectTokens`
pub mod TableTokens
-- for `tokens_spell` and `tokens_accepted`
pub mod SelectTokens
-- for the lemmas of `CanonicalTrees`
pub mod PathReadings
-- for `tokens_accepted`
pub mod CanonicalTrees
-- for the lemmas of `RoomPhrases`, `RoomPlans`, `RoomValues`, `RoomTables` and `RoomStatements`
pub mod Room
pub mod RoomPhrases
-- for the lemmas of `RoomTables`
pub mod RoomPlans
-- for the lemmas of `RoomTables`, `RoomStatements`, `PrintedValues` and `PrintedTables`
pub mod RoomValues
-- for the lemmas of `RoomStatements` and `PrintedTables`
pub mod RoomTables
-- for `tokens_accepted` and the lemmas of `PrintedStatements`
pub mod RoomStatements
-- for the lemmas of `QuotedTexts`, `NumberTexts`, `Breaking` and `Utf8Texts`
pub mod Lexes
-- for the lemmas of `Breaking`, `LexicalTokens` and `Utf8Texts`
pub mod QuotedTexts
-- for the lemmas of `Breaking`
pub mod NumberTexts
-- for `text_breaks` and the lemmas of `CanonicalFiles`
pub mod Breaking
-- for the lemmas of `Room`, `PrintedPhrases`, `PrintedPlans`, `PrintedValues`, `PrintedTables`, `PrintedStatements`, `LexicalTokens`, `CanonicalFiles` and `AcceptedFiles`
pub mod Inner
-- for the lemmas of `PrintedPlans`, `PrintedValues`, `PrintedTables` and `PrintedStatements`
pub mod PrintedPhrases
-- for the lemmas of `PrintedTables`
pub mod PrintedPlans
-- for the lemmas of `PrintedTables` and `PrintedStatements`
pub mod PrintedValues
-- for the lemmas of `PrintedStatements`
pub mod PrintedTables
-- for the lemmas of `AcceptedFiles`
pub mod PrintedStatements
-- for the lemmas of `AcceptedFiles`
pub mod LexicalTokens
-- for the lemmas of `CanonicalFiles`
pub mod FollowedPieces
-- for the lemmas of `AcceptedFiles`
pub mod CanonicalFiles
-- for the lemmas of `AcceptedFiles`
pub mod Utf8Texts
-- for `tokens_accepted` and the lemmas of `AcceptedFiles`
pub mod AcceptedTokens
-- for `read_back` and `same_text_same_tree`
pub mod AcceptedFiles
