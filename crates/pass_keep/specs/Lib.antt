pub mod Keeping
pub mod Writers
