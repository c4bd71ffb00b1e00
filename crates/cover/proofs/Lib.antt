pub mod CoverTableLaws
pub mod CoverValueLaws
pub mod HistoryLaws
pub mod Inputs
pub mod Rising
pub mod Size
pub mod Value
pub mod Whole
