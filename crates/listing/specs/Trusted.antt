pub mod Listing
pub mod WriteAnswers
