pub mod Walks
pub mod Shapes
pub mod Stored
pub mod After
pub mod Used
