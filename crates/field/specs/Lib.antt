pub mod Prime
pub mod Element
pub mod Operations
pub mod Rounded
pub mod Counts
pub mod Operators
pub mod Cases
pub mod Desk
