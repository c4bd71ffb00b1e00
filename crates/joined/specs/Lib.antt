pub mod Trusted
pub mod JoinedSheet
pub mod Settled
pub mod NumberingLaws
pub mod CountLaws
