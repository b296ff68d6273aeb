pub mod Substituted
