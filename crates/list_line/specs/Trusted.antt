pub mod Writes
pub mod TableLine
