pub mod Cells
pub mod Nests
pub mod Plans
