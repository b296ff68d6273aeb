pub mod Laid
pub mod Arrays
pub mod Walks
pub mod Lists
pub mod Turns
pub mod Whole
pub mod Operators
