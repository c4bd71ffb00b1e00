pub mod Trusted
pub mod Sequences
pub mod Cases
pub mod ListLaws
pub mod MixLaws
pub mod NumberLaws
pub mod TestLaws
pub mod CheckedLaws
