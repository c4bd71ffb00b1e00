pub mod Checks
pub mod FastOpeningLaws
pub mod FastOpeningLine
