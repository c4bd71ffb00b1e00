pub mod Fanins
