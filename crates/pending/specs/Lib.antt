pub mod Luts
pub mod LutLaws
pub mod Operands
pub mod Pendings
pub mod Merging
pub mod MergeLaws
