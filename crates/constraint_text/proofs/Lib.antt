pub mod Bytes
pub mod Decimal
pub mod Wide
pub mod Lines
pub mod Listed
pub mod Printing
