pub mod Numbering
pub mod Sizes
pub mod Inputs
pub mod Statements
pub mod Numbers
pub mod Walks
pub mod Outcome
pub mod Places
