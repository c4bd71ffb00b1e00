pub mod Trusted
pub mod Told
pub mod ListSetLaws
pub mod Examples
