pub mod Lists
pub mod Names
pub mod Facts
pub mod Cases
pub mod Laws
pub mod Sums
pub mod Weights
mod Held
mod Scopes
pub mod Grown
pub mod Children
mod Binding
mod Ways
mod Listed
mod First
pub mod Entire
pub mod Parts
pub mod Counts
pub mod Unique
