pub mod Lines
pub mod Parts
