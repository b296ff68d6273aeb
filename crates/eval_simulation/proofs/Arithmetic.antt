pub mod Values
pub mod Constants
pub mod Operations
pub mod Numbers
pub mod Powers
