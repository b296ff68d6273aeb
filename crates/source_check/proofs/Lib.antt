mod Prints
mod Marks
mod Links
mod Lists
mod Answers
pub mod Accepted
