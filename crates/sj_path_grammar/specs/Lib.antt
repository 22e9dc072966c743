pub mod Signs
pub mod Grammar
pub mod Depth
pub mod Misplaced
pub mod Unsupported
pub mod Answers
pub mod Reading
pub mod Accepted
