pub mod Trusted
pub mod LineLaws
