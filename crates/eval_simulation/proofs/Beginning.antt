pub mod Bound
pub mod Sized
pub mod Bare
pub mod Accepted
