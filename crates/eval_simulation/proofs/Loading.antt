pub mod Words
pub mod Says
pub mod Few
pub mod Held
pub mod Counted
pub mod Patterns
pub mod Expressions
pub mod Module
