pub mod Bits
pub mod Tables
pub mod Cover
pub mod Placed
pub mod CoverTables
