pub mod LineLaws
pub mod HeadLaws
pub mod GateLaws
pub mod FieldLaws
