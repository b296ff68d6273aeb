pub mod Kept
pub mod Written
pub mod Marked
pub mod Codes
pub mod Moved
