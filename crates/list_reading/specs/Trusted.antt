pub mod ReadList
pub mod ListAnswers
pub mod ListConditions
