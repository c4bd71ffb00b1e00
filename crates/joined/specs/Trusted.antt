pub mod Joined
pub mod Covered
