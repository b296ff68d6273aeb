pub mod Trees
pub mod Meaning
pub mod Record
pub mod Reading
pub mod Cases
