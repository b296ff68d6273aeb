pub mod Turns
pub mod Delivered
pub mod Building
pub mod Fits
pub mod Answers
pub mod Longest
