pub mod Agreement
pub mod Cases
pub mod Cuttable
pub mod Example
pub mod Never
pub mod Operators
pub mod Ending
pub mod Bare
