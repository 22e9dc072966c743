-- for the lemmas of `ComparisonVerdicts`
mod ComparisonPairs
-- examples of the definitions, which no proof needs
mod Examples
-- for `Cursor::look_on` and `next`, and for other lemmas
mod Draws
-- for `Cursor::exists`, `Cursor::look_on`, `Cursor::single` and `next`, and for other lemmas
mod Looks
-- for `next`
mod Pairs
-- for `Cursor::put_next` and `Cursor::number`
mod Standing
-- for `build`, `next` and `rewind`
mod Operators
-- for `key_values`
mod KeyValuePairs
-- for `next`
mod ComparisonVerdicts
-- for `next`
mod ItemAnswers
-- for `next`
mod Parts
-- for `next`
mod Connectives
-- for `see_one`
mod SingleItems
-- for `Cursor::look` and `Operand::keyed`
mod PlainPaths
-- for `collect` and `add` of moves
mod PathMoves
-- for the ways of moves, and for trails
mod Trails
-- for moves on items that are no nodes
mod MadeItems
-- for `next`, `Cursor::number` and `Cursor::single_on`
mod MadeNumbers
-- for `Inquiry::exists`, `Inquiry::single` and `Inquiry::single_on`
mod Inquiries
