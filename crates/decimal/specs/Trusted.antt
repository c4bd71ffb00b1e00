pub mod Number
pub mod Columns
pub mod Reading
pub mod Writing
