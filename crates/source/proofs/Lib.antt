pub mod Parts
pub mod Names
pub mod Links
pub mod Publics
pub mod Nodes
pub mod Accepted
mod Worked
mod Spans
mod Written
pub mod ReadBack
