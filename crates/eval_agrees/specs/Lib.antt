pub mod Level
pub mod Module
