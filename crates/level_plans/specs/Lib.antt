pub mod Backing
pub mod Ranges
