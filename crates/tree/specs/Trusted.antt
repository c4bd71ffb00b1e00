pub mod Tree
pub mod Limits
