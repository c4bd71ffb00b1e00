pub mod Trusted
