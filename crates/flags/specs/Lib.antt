pub mod Flags
pub mod FlagLaws
mod Examples
