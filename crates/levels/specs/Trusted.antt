pub mod Levels
pub mod LevelTables
