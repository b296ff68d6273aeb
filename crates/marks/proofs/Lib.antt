pub mod Indices
pub mod Counted
