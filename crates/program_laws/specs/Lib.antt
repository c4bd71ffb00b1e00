pub mod Trusted
pub mod Front
