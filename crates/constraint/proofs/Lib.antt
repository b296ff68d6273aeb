pub mod Lengths
pub mod Written
pub mod ReadBack
pub mod Read
