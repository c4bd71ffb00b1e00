pub mod Submasks
pub mod Filling
pub mod Writing
pub mod Planning
