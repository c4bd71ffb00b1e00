pub mod Trusted
pub mod Measures
