pub mod Trusted
pub mod Answered
pub mod NumbersLaws
pub mod Examples
