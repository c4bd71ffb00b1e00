pub mod Trusted
pub mod Promises
pub mod SheetsLaws
pub mod SheetsBounds
