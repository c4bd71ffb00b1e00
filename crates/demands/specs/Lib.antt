pub mod Trusted
pub mod KeptLaws
pub mod ReserveCases
pub mod LeafLaws
pub mod Determined
pub mod FreeLaws
pub mod AnswerExamples
