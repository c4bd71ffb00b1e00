pub mod RunsBy
pub mod FastRuns
