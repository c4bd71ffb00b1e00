pub mod ByteLaws
pub mod GateLaws
pub mod JoinedLaws
pub mod LeastLaws
pub mod NarrowLaws
pub mod SettledLaws
pub mod SheetLaws
