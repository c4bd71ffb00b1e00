pub mod Trusted
pub mod Line
pub mod PasteLaws
pub mod FieldLaws
