pub mod Trees
pub mod Placing
pub mod Ways
pub mod Joining
pub mod Definitions
pub mod Equations
pub mod Turns
pub mod Writers
