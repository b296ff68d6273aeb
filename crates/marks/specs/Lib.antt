pub mod Indices
pub mod Marks
