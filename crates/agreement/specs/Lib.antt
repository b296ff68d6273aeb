pub mod Flattened
pub mod Statement
pub mod Bare
