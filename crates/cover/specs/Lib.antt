pub mod Trusted
pub mod Nets
pub mod BitLaws
pub mod Eval
pub mod LevelLaws
pub mod Legal
pub mod History
