pub mod Evaluation
pub mod FlatRecord
pub mod Intrinsics
pub mod Kinds
pub mod Nodes
pub mod Operators
pub mod Refusals
pub mod SourceRecord
