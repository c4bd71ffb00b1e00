pub mod Trusted
pub mod Promises
pub mod OpeningLaws
pub mod OpeningLine
