pub mod Plain
pub mod Meaning
pub mod Statements
