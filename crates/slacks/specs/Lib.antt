pub mod Trusted
pub mod SlackText
pub mod SlackLaws
pub mod Checks
