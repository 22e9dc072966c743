pub mod LineJob
pub mod Input
pub mod Out
pub mod Stream
pub mod Splitting
pub mod Then
