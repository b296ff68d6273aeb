pub mod Written
pub mod Writers
