pub mod Passes
pub mod Meaning
pub mod Statements
pub mod Cases
