pub mod Sides
pub mod Pages
