pub mod Trees
pub mod Runs
pub mod Ids
pub mod Flat
pub mod Places
pub mod Noted
pub mod Evaluated
