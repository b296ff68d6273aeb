pub mod Sizes
pub mod Body
pub mod Cut
pub mod Longest
