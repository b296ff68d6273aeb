pub mod Buffers
pub mod Flatten
pub mod Statement
pub mod Places
pub mod Ending
