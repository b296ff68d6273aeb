pub mod Arrays
pub mod Readable
