pub mod Trusted
pub mod Promises
