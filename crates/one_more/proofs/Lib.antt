pub mod GrownSheet
pub mod Theorems
pub mod Examples
