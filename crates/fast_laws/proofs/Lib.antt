pub mod RunsByLaws
pub mod FastExamples
pub mod FastRunLaws
pub mod SlackLineLaws
