pub mod SheetTrees
pub mod Lined
pub mod LinedLaws
pub mod PlansMeet
pub mod Asking
pub mod AskingLaws
pub mod RootLaws
