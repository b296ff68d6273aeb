pub mod Cutting
pub mod Writers
pub mod Sides
