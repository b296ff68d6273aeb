pub mod Answer
pub mod Fingerprints
pub mod Marks
