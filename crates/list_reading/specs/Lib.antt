pub mod Trusted
pub mod ListingLaws
pub mod StepLaws
pub mod LoopLaws
pub mod ReadLaws
pub mod ToldLaws
pub mod PartExamples
pub mod Examples
