pub mod Answers
pub mod Agreement
pub mod Long
pub mod Longest
pub mod Places
pub mod Cases
pub mod Example
pub mod Ending
