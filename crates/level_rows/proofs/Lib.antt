pub mod Lowering
pub mod ArrayFilling
pub mod Itself
