pub mod Fanins
pub mod FaninLaws
