pub mod Trusted
pub mod FieldLaws
pub mod LayoutLaws
pub mod Taken
pub mod TakenLaws
pub mod LineTakenLaws
pub mod NarrowLaws
