pub mod Worked
pub mod Example
pub mod Levels
