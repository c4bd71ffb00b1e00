pub mod Looking
pub mod Lining
