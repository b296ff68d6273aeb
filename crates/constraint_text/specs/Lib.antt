pub mod Text
pub mod Reading
pub mod Cases
