-- for `Batch::read_on` and `judged`, and for those who take the lines
pub mod WaitingLines
-- for those who ask statements of lines
pub mod Given
