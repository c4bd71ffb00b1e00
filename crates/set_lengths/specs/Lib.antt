pub mod Trusted
pub mod LengthLaws
