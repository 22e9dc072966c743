-- for `GeneratedSource::give` and `GeneratedSourceSource::read`
mod Giving
-- for sj_run
pub mod Lengths
