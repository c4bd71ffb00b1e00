pub mod Layout
pub mod LineSays
