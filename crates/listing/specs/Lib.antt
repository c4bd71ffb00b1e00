pub mod Trusted
pub mod Lines
